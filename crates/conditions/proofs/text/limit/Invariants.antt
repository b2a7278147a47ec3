-- The loop's invariant: the condition depends on no place from i on.
use mathlib.Core.Path.{◌≡◌}
use mathlib.Core.Bool.{false}
use Prim.Native.Nat.{ℕ, ◌≤◌, ◌<◌}
use Rattle.conditions.specs.Places.{places}
use Rattle.conditions.specs.Conditions.{depends_on}
use Rattle.conditions.proofs.text.limit.Given as goal

abbrev pub invariant-loop-i : goal.invariant-loop-i
invariant-loop-i l = (j : ℕ) → l.i ≤ j → j < places → depends_on places l.c.0 j ≡ false
