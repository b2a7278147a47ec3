-- The text is put where there is room for it.
use mathlib.Core.Bool.{not}
use mathlib.Core.Path.{sym, ap}
use native.Mathlib.Omega.{arith}
use Rattle.std.proofs.lemmas.Grind.{common_steps}
use Rattle.conditions.proofs.Putting.{refused, accepted}
use Rattle.conditions.proofs.text.write_by.Goals as goal

pub returns-then-not-room : goal.returns-then-not-room
returns-then-not-room g c = λ text long puts. refused _ _ _ long c.room.ensures (ap not c.if-not-room.true)

pub returns : goal.returns
returns g c = λ text long puts.
    let is = puts _ _ c.put.ensures in
    let both = accepted long c.room.ensures (ap not c.if-not-room.false) is.put in
    let lent = sym is.lent in
    let is_written = both.1 in
    (both.0, grind (arith, common_steps))
