use Prim.Native.Nat.{◌^◌}
use native.Mathlib.Omega.{arith}
use Rattle.std.proofs.lemmas.Grind.{common_steps}
use Rattle.conditions.specs.Places.{places}
use Rattle.conditions.proofs.Primes.{past-limit}
use Rattle.conditions.proofs.condition.Condition.next_prime.Goals as goal

pub returns : goal.returns
returns c =
    let past = past-limit places c.args.self.0 c.args.from.0 (3 ^ places) in
    grind (arith, common_steps)
