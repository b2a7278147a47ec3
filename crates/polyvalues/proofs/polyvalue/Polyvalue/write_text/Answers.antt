-- The line is put where there is room for it.
use mathlib.Core.Bool.{not}
use mathlib.Core.Path.{ap}
use native.Mathlib.Omega.{arith}
use Rattle.conditions.specs.Places.{places}
use Rattle.conditions.specs.Text.{number_at}
use Rattle.polyvalues.specs.Polyvalues.{in_use}
use Rattle.polyvalues.specs.Text.{line_text}
use Rattle.conditions.proofs.Putting.{fits, refused, accepted}
use Rattle.polyvalues.proofs.polyvalue.Polyvalue.write_text.Goals as goal

pub returns-then-not-room : goal.returns-then-not-room
returns-then-not-room c =
    let both = refused _ _ _ c.text_len.ensures.value c.room.ensures (ap not c.if-not-room.true) in
    record { value = both.0; buf_after = both.1 }

pub polyvalue-requires : goal.polyvalue-requires
polyvalue-requires c = fits c.args.buf.now c.args.at (line_text places (number_at c.args.numbers) (in_use c.args.self)) c.text_len.ensures.value c.room.ensures (ap not c.if-not-room.false)

pub returns : goal.returns
returns c =
    let both = accepted c.text_len.ensures.value c.room.ensures (ap not c.if-not-room.false) c.polyvalue.ensures.put in
    record { value = both.0; buf_after = grind (arith, both.1, c.polyvalue.ensures.lent) }
