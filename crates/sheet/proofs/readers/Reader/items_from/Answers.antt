use mathlib.Core.Path.{◌∙◌}
use native.Mathlib.Omega.{arith}
use lib.ListN.{length-set}
use Rattle.book.specs.Openings.{openings_of}
use Rattle.sheet.specs.Sections.{item}
use Rattle.sheet.proofs.Repeating.{rows_more, rows_read}
use Rattle.sheet.proofs.readers.Reader.items_from.Goals as goal

pub loop-row-preserved : goal.loop-row-preserved
loop-row-preserved c = record {
  rows = length-set _ _ _ ∙ c.loop-row.invariant.rows;
  turns = c.loop-row.invariant.turns;
  kept = c.in_ok-row.ensures.kept ∙ c.loop-row.invariant.kept;
  tells = c.loop-row.invariant.tells ∙ rows_more (item _) _ _ _ _ _ (omega arith) (omega arith) c.in_ok-row.ensures.told;
}

pub returns-clause-reads : goal.returns-clause-reads
unfolding openings_of
returns-clause-reads c = record {
  told = c.loop-row.invariant.tells ∙ rows_read (item _) _ _ _ _ _ _ (omega arith) c.loop-row.invariant.rows;
  kept = c.loop-row.invariant.kept;
}
