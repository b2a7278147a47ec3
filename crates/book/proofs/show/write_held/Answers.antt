-- The line is that of the numbers at the places.
use mathlib.Core.Path.{ap, ◌∙◌}
use Rattle.conditions.specs.Places.{places}
use Rattle.conditions.specs.Written.{answer, written}
use Rattle.book.specs.Show.{line_of}
use Rattle.book.proofs.Showing.{line-is, was-written}
use Rattle.book.proofs.show.write_held.Goals as goal

pub returns : goal.returns
returns c =
    let l = c.args.buf.now in
    let line = line-is c.args.held c.args.«open» c.numbers_at.ensures in
    record {
      value = c.or.ensures ∙ was-written l (line_of places c.args.held c.args.«open») (c.write_text.ensures.value ∙ ap (answer l 0) line);
      buf_after = c.write_text.ensures.buf_after ∙ ap (written l 0) line;
    }
