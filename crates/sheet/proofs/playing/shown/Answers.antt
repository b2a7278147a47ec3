-- Show writes its line behind the head that was put for an accepted one; refused, its own line goes over that head.
use native.Mathlib.Omega.{arith}
use mathlib.Core.Path.{sym, ◌∙◌}
use Rattle.std.specs.Prelude.{Err}
use Rattle.conditions.proofs.Putting.{put_then, put-length}
use Rattle.conditions.specs.Places.{places}
use Rattle.sheet.proofs.Writing.{put-over, head-shorter, show-fits}
use Rattle.sheet.proofs.Lent.{refused-lent, lent-refused, accepted-lent, end-few, lent-put}
use Rattle.sheet.proofs.Plays.{show-accepted, show-refused}
use Rattle.sheet.proofs.playing.shown.Goals.{in-Ok, in-Err}
use Rattle.std.proofs.Common.{rules}
use Rattle.sheet.proofs.playing.shown.Goals as goal

pub slice_bounds-show-end : goal.slice_bounds-show-end
slice_bounds-show-end c =
    let head = rw c.requires.start at c.head.ensures.put.put in
    omega (arith, show-fits c.args.position (omega arith) c.requires.room head c.byte.ensures.put)

pub overflow_add-line : goal.overflow_add-line
overflow_add-line c =
    let a = c.args in
    let head = rw c.requires.start at c.head.ensures.put.put in
    let fits = show-fits a.position (omega arith) c.requires.room head c.byte.ensures.put in
    let few = end-few places a.book a.item c.byte.new.self.buf.now c.byte.new.self.end (omega (arith, fits)) c.show.ensures.buf_after (sym c.in-Ok.is ∙ c.show.ensures.value) in
    record { fits = omega (arith, few, c.byte.ensures.put.ends, c.head.ensures.upper_bound) }

pub byte-requires-in-Ok : goal.byte-requires-in-Ok
byte-requires-in-Ok c =
    let a = c.args in
    let head = rw c.requires.start at c.head.ensures.put.put in
    let fits = show-fits a.position (omega arith) c.requires.room head c.byte.ensures.put in
    let accepted = sym c.in-Ok.is ∙ c.show.ensures.value in
    let few = end-few places a.book a.item c.byte.new.self.buf.now c.byte.new.self.end (omega (arith, fits)) c.show.ensures.buf_after accepted in
    let held = lent-put places a.book a.item c.byte.new.self.buf.now c.byte.new.self.end (omega (arith, fits)) c.show.ensures.buf_after accepted in
    omega (arith, few, fits, put-length held)

pub returns : goal.returns
returns c =
    let a = c.args in
    let lent = c.byte.new.self.buf.now in
    let from = c.byte.new.self.end in
    let head = rw c.requires.start at c.head.ensures.put.put in
    let space = c.byte.ensures.put in
    let fits = show-fits a.position (omega arith) c.requires.room head space in
    record {
      plays = elim c.match-show.branch [
        | in-Ok w ↦
            let accepted = sym w.in-Ok.is ∙ c.show.ensures.value in
            let is = accepted-lent places a.book a.item lent from (omega (arith, fits)) c.show.ensures.buf_after accepted in
            let few = end-few places a.book a.item lent from (omega (arith, fits)) c.show.ensures.buf_after accepted in
            let held = lent-put places a.book a.item lent from (omega (arith, fits)) c.show.ensures.buf_after accepted in
            rw w.line-is
            (show-accepted places a.book a.item a.position is
            (put_then (put_then (put_then head space) held) w.byte-in-Ok.ensures.put)
            (omega (arith, few, fits, w.byte-in-Ok.ensures.put.ends, put-length head, put-length space)))
        | in-Err w ↦
            let refused = sym w.in-Err.is ∙ c.show.ensures.value in
            let back = lent-refused places a.book a.item lent from (omega (arith, fits)) c.show.ensures.buf_after refused in
            let is = refused-lent places a.book a.item lent from (omega (arith, fits)) c.show.ensures.buf_after refused in
            let plain = rw back at w.plain.ensures.put.put in
            rw w.line-is
            (show-refused places a.book a.item a.position is
            (put-over (put_then head space) plain (head-shorter a.position (Err w.in-Err.refusal)) (omega (arith, plain.ends, w.plain.ensures.upper_bound, c.requires.room)))
            (omega (arith, w.plain.ensures.upper_bound, c.requires.room)))
      ];
      lent = search rules;
    }
