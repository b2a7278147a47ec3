use borrow.Author.Rules.{rules}
use borrow.Author.Tests.{tests}
use Rattle.book.specs.Open.{good_opening}
use Rattle.book.proofs.maker.Openings.open_a_book.Goals as goal

pub returns-then-good_counts : goal.returns-then-good_counts
unfolding good_opening
returns-then-good_counts c = search (rules, tests)

pub returns-else-good_counts : goal.returns-else-good_counts
unfolding good_opening
returns-else-good_counts c = search (rules, tests)
