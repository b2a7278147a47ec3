-- The value is put where there is room for it.
use mathlib.Core.Bool.{not}
use mathlib.Core.Path.{ap, ◌∙◌}
use native.Mathlib.Omega.{arith}
use lib.ListN.{length}
use Rattle.polyvalues.specs.Values.{value_text}
use Rattle.conditions.proofs.Putting.{fits, refused, accepted}
use Rattle.polyvalues.proofs.Texts.{handed, handed-text}
use Rattle.polyvalues.proofs.text.write_value.Goals as goal

pub returns-then-not-room : goal.returns-then-not-room
returns-then-not-room c =
    let both = refused _ _ _ (c.value_len.ensures.value ∙ ap length (handed-text c.ranges.v)) c.room.ensures (ap not c.if-not-room.true) in
    record { value = both.0; buf_after = both.1 }

pub value-requires : goal.value-requires
value-requires c = fits c.args.buf.now c.args.at (value_text (handed c.args.v)) c.value_len.ensures.value c.room.ensures (ap not c.if-not-room.false)

pub returns : goal.returns
returns c =
    let both = rw (handed-text c.ranges.v) at (accepted c.value_len.ensures.value c.room.ensures (ap not c.if-not-room.false) c.value.ensures.put) in
    record { value = both.0; buf_after = grind (arith, both.1, c.value.ensures.lent) }
