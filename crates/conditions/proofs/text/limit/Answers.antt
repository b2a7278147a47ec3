use native.Mathlib.Omega.{arith}
use Rattle.conditions.specs.Places.{places}
use Rattle.conditions.proofs.Primes.{none-high}
use Rattle.conditions.proofs.text.limit.Goals as goal

pub returns-then-depends-clause-none_prime : goal.returns-then-depends-clause-none_prime
returns-then-depends-clause-none_prime c = none-high places _ _ c.power.ensures (λ j h l. c.loop-i.invariant j (omega arith) l)

pub returns-clause-none_prime : goal.returns-clause-none_prime
returns-clause-none_prime c = none-high places _ 0 c.power-2.ensures (λ j h l. c.loop-i.invariant j (omega arith) l)
