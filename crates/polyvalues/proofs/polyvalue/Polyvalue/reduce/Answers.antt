-- A reduction has no more values than before, so there is room.
use mathlib.Core.Path.{◌≡◌}
use borrow.Author.Rules.{rules}
use Prim.Native.Nat.{ℕ}
use Rattle.std.specs.Prelude.{Some}
use Rattle.conditions.specs.Places.{places}
use Rattle.conditions.specs.Conditions.{reduced}
use Rattle.polyvalues.specs.Polyvalues.{packed, in_use}
use Rattle.polyvalues.specs.Operations.{reduce}
use Rattle.polyvalues.proofs.Known.{Held, held-long}
use Rattle.polyvalues.proofs.Inserting.{in_use-le}
use Rattle.polyvalues.proofs.Joining.{packed-again, changed-rows}
use Rattle.polyvalues.proofs.polyvalue.Polyvalue.reduce.Goals as goal

pub join_rows-requires-clause-start_tidy : goal.join_rows-requires-clause-start_tidy
join_rows-requires-clause-start_tidy c = packed-again _ c.nothing.ensures

made : (c : goal.After-join_rows) → c.join_rows.result ≡ Some (packed (reduce places c.args.place.0 c.args.outcome (in_use c.args.self)))
unfolding reduce
made c =
    let held : Held c.args.self = record { values = _; own = c.well_formed.0 } in
    let f = λ (x : ℕ). reduced places x c.args.place.0 c.args.outcome in
    changed-rows places f c.nothing.ensures c.args.self (in_use-le c.args.self (held-long held)) (c.join_rows.ensures f (λ x y l p. search rules))

pub unwrap-requires : goal.unwrap-requires
unwrap-requires c = rw (made c)

pub returns : goal.returns
returns c = let is = made c.before in cc (c.unwrap.ensures)
