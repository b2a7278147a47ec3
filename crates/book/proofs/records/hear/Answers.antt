use borrow.Author.Rules.{rules}
use borrow.Author.Tests.{tests}
use Rattle.book.specs.Records.{hear_record}
use Rattle.book.proofs.records.hear.Goals as goal

pub returns-then-busy_on : goal.returns-then-busy_on
unfolding hear_record
returns-then-busy_on c = search (tests, rules)

pub returns-else-busy_on : goal.returns-else-busy_on
unfolding hear_record
returns-else-busy_on c = search (tests, rules)
