-- The loop's invariant: no product from the first on and before p is prime.
use Prim.Native.Nat.{◌≤◌, ◌-◌}
use Rattle.conditions.specs.Places.{places}
use Rattle.conditions.specs.Products.{NonePrime}
use Rattle.conditions.proofs.product.prime_from.Given as goal

abbrev pub invariant-loop-p : goal.invariant-loop-p
invariant-loop-p l = (l.from ≤ l.p) × NonePrime places l.c.0 l.from l.p

abbrev pub decreases-loop-p : goal.decreases-loop-p
decreases-loop-p l = l.limit - l.p
