-- A sign where the value is below zero, and five digits at most.
use native.Mathlib.Omega.{arith}
use mathlib.Core.Path.{ap}
use lib.ListN.{length}
use Rattle.conditions.proofs.Laws.Text.{decimal-le}
use Rattle.polyvalues.proofs.Texts.{signed-text, plain-text}
use Rattle.polyvalues.proofs.text.value_len.Goals as goal

pub returns-then-v-lt0 : goal.returns-then-v-lt0
returns-then-v-lt0 c =
    let text = signed-text c.ranges.v c.distance.result c.distance.ensures.v_value c.if-v-lt0.true in
    let few = decimal-le 4 c.distance.result (omega (arith, c.distance.ensures.upper_bound)) in
    record {
      value = omega (arith, c.decimal_len-digits.ensures.value, ap length text);
      upper_bound = omega (arith, c.decimal_len-digits.ensures.value, few);
    }

pub returns : goal.returns
returns c =
    let text = plain-text c.ranges.v c.distance.result c.distance.ensures.v_value c.if-v-lt0.false in
    let few = decimal-le 4 c.distance.result (omega (arith, c.distance.ensures.upper_bound)) in
    record {
      value = omega (arith, c.decimal_len-digits.ensures.value, ap length text);
      upper_bound = omega (arith, c.decimal_len-digits.ensures.value, few);
    }
