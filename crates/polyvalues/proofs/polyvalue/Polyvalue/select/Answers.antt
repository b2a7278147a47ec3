-- The completed side always has room; both may not have.
use mathlib.Core.Path.{◌≡◌, ap, ◌∙◌}
use borrow.Author.Rules.{rules}
use Prim.Native.Nat.{ℕ}
use Rattle.std.specs.Prelude.{Option, Some, ok_or}
use Rattle.conditions.specs.Places.{places}
use Rattle.conditions.specs.Conditions.{selected}
use Rattle.polyvalues.specs.declared.polyvalue.NinthValue.{NinthValue}
use Rattle.polyvalues.specs.declared.polyvalue.Polyvalue.{Polyvalue}
use Rattle.polyvalues.specs.Polyvalues.{packed, in_use, fitting}
use Rattle.polyvalues.specs.Simplify.{simplified}
use Rattle.polyvalues.specs.Operations.{changed}
use Rattle.polyvalues.proofs.Known.{Held, held-long}
use Rattle.polyvalues.proofs.Inserting.{in_use-le}
use Rattle.polyvalues.proofs.Joining.{packed-again, changed-rows, selected-rows, fitted-or}
use Rattle.polyvalues.proofs.polyvalue.Polyvalue.select.Goals as goal

pub join_rows-requires-clause-start_tidy : goal.join_rows-requires-clause-start_tidy
join_rows-requires-clause-start_tidy c = packed-again _ c.nothing.ensures

abbrev where-completed : ℕ → ℕ → ℕ
where-completed i x = selected places i x 0

abbrev where-aborted : ℕ → ℕ → ℕ
where-aborted i x = selected places i 0 x

-- the completed side
side : (c : goal.After-join_rows) → c.join_rows.result ≡ Some (packed (simplified places (changed (where-completed c.args.place.0) (in_use c.args.done))))
side c =
    let held : Held c.args.done = record { values = _; own = c.well_formed.1.0 } in
    changed-rows places (where-completed c.args.place.0) c.nothing.ensures c.args.done (in_use-le c.args.done (held-long held))
    (c.join_rows.ensures (where-completed c.args.place.0) (λ x y l p. search rules))

first : (c : goal.After-unwrap-first) → c.unwrap-first.result ≡ packed (simplified places (changed (where-completed c.args.place.0) (in_use c.args.done)))
first c = let is = side c.before in cc (c.unwrap-first.ensures)

pub unwrap-first-requires : goal.unwrap-first-requires
unwrap-first-requires c = rw (side c)

pub join_rows-requires-2-clause-start_tidy : goal.join_rows-requires-2-clause-start_tidy
join_rows-requires-2-clause-start_tidy c = packed-again _ (first c)

-- and then the aborted one
pub returns : goal.returns
returns c =
    let unjoined : NinthValue = record { 0 = c.args.gone } in
    c.ok_or.ensures.value ∙ ap (λ (o : Option Polyvalue). ok_or o unjoined) (c.join_rows-2.ensures (where-aborted c.args.place.0) (λ x y l p. search rules) ∙ ap fitting (selected-rows places _ c.args.done c.args.gone _ (first c.before.before))) ∙ fitted-or c.args.gone _
