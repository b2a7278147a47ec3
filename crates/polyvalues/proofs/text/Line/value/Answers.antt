-- A sign where the value is below zero, and the digits.
use mathlib.Core.Path.{ap}
use native.Mathlib.Omega.{arith}
use lib.ListN.{length}
use Rattle.conditions.proofs.Putting.{put-length}
use Rattle.polyvalues.proofs.Texts.{puts_then, signed-text, plain-text}
use Rattle.polyvalues.proofs.text.Line.value.Goals as goal

pub byte-requires : goal.byte-requires
byte-requires c =
    let text = signed-text c.ranges.v c.distance-n.result c.distance-n.ensures.v_value c.if-v-lt0.true in
    omega (arith, c.requires, ap length text)

pub decimal-requires : goal.decimal-requires
decimal-requires c =
    let text = signed-text c.ranges.v c.distance-n.result c.distance-n.ensures.v_value c.if-v-lt0.true in
    omega (arith, c.requires, ap length text, c.byte.ensures.put.ends, put-length c.byte.ensures.put)

pub returns-then-v-lt0 : goal.returns-then-v-lt0
returns-then-v-lt0 c =
    let text = signed-text c.ranges.v c.distance-n.result c.distance-n.ensures.v_value c.if-v-lt0.true in
    rw text (puts_then c.byte.ensures c.decimal.ensures)

pub decimal-requires-2 : goal.decimal-requires-2
decimal-requires-2 c =
    let text = plain-text c.ranges.v c.distance-n.result c.distance-n.ensures.v_value c.if-v-lt0.false in
    omega (arith, c.requires, ap length text)

pub returns : goal.returns
returns c =
    let text = plain-text c.ranges.v c.distance-n.result c.distance-n.ensures.v_value c.if-v-lt0.false in
    rw text c.decimal-2.ensures
