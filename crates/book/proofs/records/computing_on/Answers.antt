use borrow.Author.Rules.{rules}
use borrow.Author.Tests.{tests}
use Rattle.book.specs.Records.{computing_on}
use Rattle.book.proofs.records.computing_on.Goals as goal

pub returns-then-district-eq-COMPUTING : goal.returns-then-district-eq-COMPUTING
unfolding computing_on
returns-then-district-eq-COMPUTING c = search (tests, rules)

pub returns-else-district-eq-COMPUTING : goal.returns-else-district-eq-COMPUTING
unfolding computing_on
returns-else-district-eq-COMPUTING c = search (tests, rules)
