-- The loop's invariant: the prime products below `from` are put.
use Prim.Native.Nat.{◌+◌, ◌*◌, ◌^◌, ◌≤◌, ◌-◌}
use Rattle.conditions.specs.Places.{places}
use Rattle.conditions.specs.Text.{number_at}
use Rattle.conditions.specs.Written.{Puts}
use Rattle.conditions.proofs.Putting.{primes_text}
use Rattle.conditions.proofs.text.Line.put_condition.Given as goal

abbrev pub invariant-loop-p : goal.invariant-loop-p
invariant-loop-p l = record {
  put : Puts l.initial.self l.self (primes_text places (number_at l.numbers) l.c.0 l.from);
  up_to : l.from ≤ l.limit;
  limited : l.limit ≤ 3 ^ places;
  upper_bound : l.self.at ≤ l.start + (8 * places + 2) * l.from;
}

abbrev pub decreases-loop-p : goal.decreases-loop-p
decreases-loop-p l = l.limit - l.from
