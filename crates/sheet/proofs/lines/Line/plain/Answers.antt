-- The head, and then the line feed.
use Rattle.sheet.proofs.Writing.{plain-line, puts_then}
use Rattle.sheet.proofs.lines.Line.plain.Goals as goal

pub returns-clause-put : goal.returns-clause-put
returns-clause-put c = rw (plain-line _ _) at (puts_then c.head.ensures.put c.byte.ensures)
