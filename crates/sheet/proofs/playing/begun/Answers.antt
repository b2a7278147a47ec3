-- A number and a grant where begin is accepted.
use mathlib.Core.Path.{sym, ◌∙◌}
use native.Mathlib.Omega.{arith}
use Rattle.sheet.specs.Play.{of_begun}
use Rattle.sheet.proofs.Writing.{puts_then, plain-line, refused-line, begun-line}
use Rattle.sheet.proofs.Plays.{line_plays}
use Rattle.sheet.proofs.playing.begun.Goals.{then-is_ok, else-is_ok}
use Rattle.std.proofs.Common.{rules}
use Rattle.sheet.proofs.playing.begun.Goals as goal

pub returns : goal.returns
returns c = record {
  plays = elim c.if-is_ok.branch [
    | then-is_ok w ↦
        let number = rw w.from.ensures at w.field.ensures.put in
        let grant = rw w.from-then-is_ok.ensures at w.field-then-is_ok.ensures.put in
        let end = rw w.line-is at c.byte.ensures in
        line_plays (of_begun c.args.x) c.args.position c.requires.start
        (rw (begun-line _ _ (sym c.is_ok.ensures.value ∙ w.if-is_ok.true) _ _) at (puts_then (puts_then (puts_then c.head.ensures.put number) grant) end))
        (omega (arith, c.requires.room, c.head.ensures.upper_bound, w.field.ensures.upper_bound, w.field-then-is_ok.ensures.upper_bound, end.put.ends))
    | else-is_ok w ↦
        let end = rw w.line-is at c.byte.ensures in
        line_plays (of_begun c.args.x) c.args.position c.requires.start
        (rw (plain-line _ _, refused-line _ _ (sym c.is_ok.ensures.value ∙ w.if-is_ok.false) (of_begun c.args.x).more) at (puts_then c.head.ensures.put end))
        (omega (arith, c.requires.room, c.head.ensures.upper_bound, end.put.ends))
  ];
  lent = search rules;
}
