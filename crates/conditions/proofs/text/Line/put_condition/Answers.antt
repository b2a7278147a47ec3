use mathlib.Core.Path.{refl}
use Prim.Native.Nat.{◌≤◌}
use native.Mathlib.Numerals.{add-one}
use native.Mathlib.Omega.{arith}
use Rattle.conditions.specs.Places.{places}
use Rattle.conditions.specs.Products.{prime_from}
use Rattle.conditions.proofs.Primes.{next-is}
use Rattle.conditions.proofs.Putting.{primes-none, primes-more, primes-put, condition-put}
use Rattle.conditions.proofs.text.Line.put_condition.Goals as goal

pub loop-p-init : goal.loop-p-init
loop-p-init c = record {
  put = primes-none places _ _ _;
  up_to = omega arith;
  limited = c.limit-limit.ensures.upper_bound;
  upper_bound = omega arith;
}

pub loop-p-smaller : goal.loop-p-smaller
loop-p-smaller c =
    let next = next-is places _ _ _ c.loop-p.invariant.up_to c.in-Some.ensures.1 in
    omega (arith, next.from_on, c.in-Some.ensures.0)

pub loop-p-preserved : goal.loop-p-preserved
loop-p-preserved c =
    let at-loop = c.loop-p.invariant in
    let next = next-is places _ _ _ at-loop.up_to c.in-Some.ensures.1 in
    record {
      put = rw add-one (primes-more places _ _ _ (primes-put places _ _ _ _ next.from_on next.none at-loop.put) (next.found c.in-Some.ensures.0) c.put_next.ensures.put);
      up_to = omega (arith, c.in-Some.ensures.0);
      limited = at-loop.limited;
      upper_bound = omega (arith, next.from_on, at-loop.upper_bound, c.put_next.ensures.upper_bound);
    }

pub returns-clause-put : goal.returns-clause-put
returns-clause-put c =
    let at-loop = c.loop-p.invariant in
    let next = next-is places c.args.c.0 c.loop-p.from c.limit-limit.result at-loop.up_to refl in
    let past : c.limit-limit.result ≤ prime_from places c.args.c.0 c.loop-p.from c.limit-limit.result = c.in_default.ensures in
    let all = primes-put places _ _ _ c.limit-limit.result at-loop.up_to (λ j h. next.none j (omega arith)) at-loop.put in
    condition-put places _ _ _ c.limit-limit.ensures.upper_bound c.limit-limit.ensures.none_prime all
