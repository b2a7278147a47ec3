-- The loop's invariant: the value of each row before k is below the new one.
use mathlib.Core.Path.{◌≡◌}
use mathlib.Core.Bool.{true}
use Prim.Native.Nat.{ℕ, ◌<◌}
use Rattle.polyvalues.specs.Values.{below}
use Rattle.polyvalues.specs.Rows.{value_at}
use Rattle.polyvalues.proofs.rows.place_of.Given as goal

abbrev pub invariant-loop-k : goal.invariant-loop-k
invariant-loop-k l = (j : ℕ) → j < l.k → below (value_at l.fn.q j) l.fn.value ≡ true
