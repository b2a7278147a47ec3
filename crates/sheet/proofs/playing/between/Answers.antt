-- The part of the bytes that is there.
use Rattle.sheet.proofs.Writing.{within}
use Rattle.sheet.proofs.playing.between.Goals as goal

pub returns : goal.returns
returns c = within _ _ _ c.min.ensures c.min-end.ensures
