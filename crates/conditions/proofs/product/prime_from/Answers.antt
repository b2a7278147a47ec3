use native.Mathlib.Omega.{arith}
use Rattle.conditions.specs.Places.{places}
use Rattle.conditions.proofs.Primes.{none-on, none-below, is-next}
use Rattle.conditions.proofs.product.prime_from.Goals as goal

pub returns-in_default : goal.returns-in_default
returns-in_default c =
    let at-loop = c.loop-p in
    (omega arith, is-next places _ _ _ _ at-loop.invariant.0 (omega arith) at-loop.invariant.1 (λ h. c.in_default.ensures))

pub returns-then-limit-p : goal.returns-then-limit-p
returns-then-limit-p c =
    let at-loop = c.loop-p in
    none-below places _ _ _ (none-on places _ _ _ _ _ at-loop.invariant.0 at-loop.invariant.1 c.in-Some.ensures.1 (omega arith))

pub loop-p-preserved : goal.loop-p-preserved
loop-p-preserved c =
    let at-loop = c.loop-p in
    (omega arith, none-on places _ _ _ _ _ at-loop.invariant.0 at-loop.invariant.1 c.in-Some.ensures.1 (omega arith))

pub returns : goal.returns
returns c = none-below places _ _ _ (λ j h. c.loop-p.invariant.1 j (omega arith))
