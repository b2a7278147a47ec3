-- The plain line.
use native.Mathlib.Omega.{arith}
use Rattle.sheet.specs.Play.{of_done}
use Rattle.sheet.proofs.Plays.{line_plays}
use Rattle.std.proofs.Common.{rules}
use Rattle.sheet.proofs.playing.done.Goals as goal

pub returns : goal.returns
returns c = record {
  plays = line_plays (of_done c.args.x) c.args.position c.requires.start c.plain.ensures.put (omega (arith, c.requires.room, c.plain.ensures.upper_bound));
  lent = search rules;
}
