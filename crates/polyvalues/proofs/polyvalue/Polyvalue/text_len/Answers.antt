use mathlib.Core.Path.{ap}
use Prim.Native.Nat.{ℕ}
use native.Mathlib.Omega.{arith}
use lib.ListN.{length}
use Rattle.conditions.specs.Places.{places}
use Rattle.conditions.specs.Text.{decimal, number_at}
use Rattle.conditions.proofs.Laws.Text.{decimal-le}
use Rattle.polyvalues.specs.declared.polyvalue.Pair.{Pair}
use Rattle.polyvalues.specs.Polyvalues.{in_use}
use Rattle.polyvalues.specs.Text.{pair_text}
use Rattle.polyvalues.proofs.Texts.{line-length, rest-length, rows-done-length}
use Rattle.polyvalues.proofs.polyvalue.Polyvalue.text_len.Goals as goal

pub loop-i-init : goal.loop-i-init
loop-i-init c = (
  omega (arith, line-length places (number_at c.args.numbers) (in_use c.args.self), c.decimal_len-len.ensures.value, ap (λ (k : ℕ). length (decimal k)) c.len-n.ensures.value),
  omega (arith, c.decimal_len-len.ensures.value, decimal-le 0 c.len-n.result (omega (arith, c.len-n.ensures.upper_bound))),
)

pub overflow_add-len : goal.overflow_add-len
overflow_add-len c = record { fits = omega (arith, c.pair_len.ensures.upper_bound) }

pub overflow_add-len-in-loop-i : goal.overflow_add-len-in-loop-i
overflow_add-len-in-loop-i c = record { fits = omega (arith, c.pair_len.ensures.upper_bound, c.loop-i.invariant.1, c.len-n.ensures.upper_bound) }

pub loop-i-preserved : goal.loop-i-preserved
loop-i-preserved c = (
  omega (arith, c.loop-i.invariant.0, rest-length places (number_at c.args.numbers) c.args.self c.loop-i.i (omega (arith, c.len-n.ensures.value)), c.pair_len.ensures.value, ap (λ (p : Pair). length (pair_text places (number_at c.args.numbers) p)) c.row-row.ensures),
  omega (arith, c.loop-i.invariant.1, c.pair_len.ensures.upper_bound),
)

pub returns : goal.returns
returns c = record {
  value = omega (arith, c.loop-i.invariant.0, rows-done-length places (number_at c.args.numbers) (in_use c.args.self) c.loop-i.i (omega (arith, c.len-n.ensures.value)));
  upper_bound = omega (arith, c.loop-i.invariant.1, c.len-n.ensures.upper_bound);
}
