-- The loop's invariant: joining the rows from i on into what is done gives what is asked, whatever it is that the closure does.
use mathlib.Core.Path.{◌≡◌}
use Prim.Native.Nat.{ℕ, ◌≤◌, ◌<◌, ◌^◌}
use lib.ListN.{length, drop}
use Rattle.conditions.specs.declared.condition.Condition.{Condition}
use Rattle.conditions.specs.Places.{places}
use Rattle.conditions.specs.Conditions.{number}
use Rattle.polyvalues.specs.Polyvalues.{most_pairs, in_use, packed}
use Rattle.polyvalues.specs.Simplify.{simplified_from}
use Rattle.polyvalues.specs.Operations.{changed}
use Rattle.polyvalues.proofs.operations.join_rows.Given as goal

abbrev pub invariant-loop-i : goal.invariant-loop-i
invariant-loop-i g l =
    (l.done ≡ packed (in_use l.done)) × (length (in_use l.done) ≤ most_pairs)
    × ((f : ℕ → ℕ) → ((c d : Condition) → number c < 2 ^ 2 ^ places → g.F.Fn.post l.cut (c, tt) d → number d ≡ f (number c))
    → simplified_from places (in_use l.done) (changed f (drop l.i (in_use l.rows))) ≡ simplified_from places (in_use l.fn.start) (changed f (in_use l.rows)))
