-- The three ways: a row of its value, no room, a row more.
use mathlib.Core.Path.{◌≡◌}
use mathlib.Core.Bool.{true}
use Prim.Native.Nat.{ℕ, ◌≤◌, ◌<◌}
use lib.IntN.{ℤ}
use native.Mathlib.Omega.{arith}
use lib.ListN.{length}
use mir.Facts.{to_z-of_z}
use mir.Syntax.{w16}
use mir.Val.{SFits}
use Rattle.conditions.specs.Places.{places}
use Rattle.polyvalues.specs.declared.polyvalue.Polyvalue.{Polyvalue}
use Rattle.polyvalues.specs.Polyvalues.{most_pairs, in_use, packed}
use Rattle.polyvalues.specs.Rows.{has_at}
use Rattle.polyvalues.proofs.Known.{Held, all-rows, held-long}
use Rattle.polyvalues.proofs.Inserting.{in_use-le, has-lt, tidy-count, inserted_same, inserted-none, inserted_new}
use Rattle.polyvalues.proofs.rows.inserted.Goals as goal

module _ (q : Polyvalue) (held : Held q) (tidy : q ≡ packed (in_use q)) where
  few : length (in_use q) ≤ most_pairs
  few = in_use-le q (held-long held)

  count-le : q.count ≤ most_pairs
  count-le = omega (arith, few, tidy-count q tidy)

  -- the row of its value
  inside : (k : ℕ) (v : ℤ) → has_at q k v ≡ true → k < most_pairs
  inside k v has = omega (arith, has-lt q k v has, count-le)

pub place_of-requires : goal.place_of-requires
place_of-requires c = count-le c.args.q (record { values = _; own = c.well_formed.0 }) c.requires

pub row-row-requires : goal.row-row-requires
row-row-requires c = inside c.args.q (record { values = _; own = c.well_formed.0 }) c.requires c.in-Ok.k _ c.in-Ok.ensures.1

pub offset_bounds-joined-k : goal.offset_bounds-joined-k
offset_bounds-joined-k c = record { fits = omega (arith, inside c.args.q (record { values = _; own = c.well_formed.0 }) c.requires c.in-Ok.k _ c.in-Ok.ensures.1) }

pub bounds-joined-k : goal.bounds-joined-k
bounds-joined-k c = inside c.args.q (record { values = _; own = c.well_formed.0 }) c.requires c.in-Ok.k _ c.in-Ok.ensures.1

pub offset_bounds-joined-k-in-Ok : goal.offset_bounds-joined-k-in-Ok
offset_bounds-joined-k-in-Ok c = record { fits = omega (arith, inside c.args.q (record { values = _; own = c.well_formed.0 }) c.requires c.in-Ok.k _ c.in-Ok.ensures.1) }

pub bounds-joined-k-in-Ok : goal.bounds-joined-k-in-Ok
bounds-joined-k-in-Ok c = inside c.args.q (record { values = _; own = c.well_formed.0 }) c.requires c.in-Ok.k _ c.in-Ok.ensures.1

pub returns-in-Ok : goal.returns-in-Ok
returns-in-Ok c =
    let held : Held c.args.q = record { values = _; own = c.well_formed.0 } in
    let its : SFits w16 c.args.new.value = record { sfits = c.struct_told-1.given.0.1 } in
    let fits : SFits w16 c.united-both.result.value = record { sfits = c.struct_told-in-Ok-1.given.0.1 } in
    let found = rw (to_z-of_z its) at c.in-Ok.ensures in
    rw (to_z-of_z fits)
    (inserted_same places _ _ _ c.requires (few c.args.q held c.requires) found.0 found.1 c.row-row.ensures c.united-both.ensures)

pub returns-then-n-ge-PAIRS : goal.returns-then-n-ge-PAIRS
returns-then-n-ge-PAIRS c =
    let held : Held c.args.q = record { values = _; own = c.well_formed.0 } in
    let its : SFits w16 c.args.new.value = record { sfits = c.struct_told-1.given.0.1 } in
    let found = rw (to_z-of_z its) at c.in-Err.ensures in
    inserted-none places _ _ _ c.requires (few c.args.q held c.requires) found.0 found.1 c.if-n-ge-PAIRS.true

pub returns-else-n-ge-PAIRS : goal.returns-else-n-ge-PAIRS
returns-else-n-ge-PAIRS c =
    let held : Held c.args.q = record { values = _; own = c.well_formed.0 } in
    let its : SFits w16 c.args.new.value = record { sfits = c.struct_told-1.given.0.1 } in
    let found = rw (to_z-of_z its) at c.in-Err.ensures in
    let rows : Held c.moved-rows.result = record { values = _; own = c.moved-rows.type_inv } in
    inserted_new places _ _ _ c.requires (few c.args.q held c.requires) found.0 (all-rows rows) found.1 c.if-n-ge-PAIRS.false c.moved-rows.ensures
