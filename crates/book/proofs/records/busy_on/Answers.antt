use borrow.Author.Rules.{rules}
use borrow.Author.Tests.{tests}
use Rattle.book.specs.Records.{busy_on, waiting_on}
use Rattle.book.proofs.records.busy_on.Goals as goal

pub returns-then-computing_on : goal.returns-then-computing_on
unfolding busy_on waiting_on
returns-then-computing_on c = search (tests, rules)

pub returns-then-district-eq-WAITING : goal.returns-then-district-eq-WAITING
unfolding busy_on waiting_on
returns-then-district-eq-WAITING c = search (tests, rules)

pub returns-else-district-eq-WAITING : goal.returns-else-district-eq-WAITING
unfolding busy_on waiting_on
returns-else-district-eq-WAITING c = search (tests, rules)
