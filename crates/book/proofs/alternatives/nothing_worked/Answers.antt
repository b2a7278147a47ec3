-- Rows of zeros.
use Rattle.book.specs.Alternatives.{nothing_worked}
use Rattle.book.proofs.alternatives.nothing_worked.Goals as goal

pub returns : goal.returns
unfolding nothing_worked
returns c = rw c.nothing.ensures
