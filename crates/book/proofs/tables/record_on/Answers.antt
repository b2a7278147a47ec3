use borrow.Author.Rules.{rules}
use Rattle.book.specs.Book.{record_on}
use Rattle.book.proofs.tables.record_on.Goals as goal

pub returns-then-r-eq-IDLE : goal.returns-then-r-eq-IDLE
unfolding record_on
returns-then-r-eq-IDLE c = search rules

pub returns-else-r-eq-IDLE : goal.returns-else-r-eq-IDLE
unfolding record_on
returns-else-r-eq-IDLE c = search rules
