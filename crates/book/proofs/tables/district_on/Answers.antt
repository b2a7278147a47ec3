-- A district past the last row is on none.
use borrow.Author.Rules.{rules}
use Rattle.book.specs.Book.{record_on}
use Rattle.book.proofs.tables.district_on.Goals as goal

pub returns : goal.returns
unfolding record_on
returns c = search rules
