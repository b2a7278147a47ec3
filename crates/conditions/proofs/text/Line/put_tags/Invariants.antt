-- The loop's invariant: the tags before place i are put, of eight bytes each at most.
use Prim.Native.Nat.{◌+◌, ◌*◌, ◌≤◌}
use Rattle.conditions.specs.Text.{number_at, tags_text}
use Rattle.conditions.specs.Written.{Puts}
use Rattle.conditions.proofs.text.Line.put_tags.Given as goal

abbrev pub invariant-loop-i : goal.invariant-loop-i
invariant-loop-i l = record {
  put : Puts l.initial.self l.self (tags_text l.i (number_at l.n-items) l.product.0);
  upper_bound : l.self.at ≤ l.start + 8 * l.i;
}
