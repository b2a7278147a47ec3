use borrow.Author.Rules.{rules}
use borrow.Author.Tests.{tests}
use Rattle.book.specs.Begin.{outside}
use Rattle.book.proofs.Step.is_outside.Goals as goal

pub returns-then-count-from : goal.returns-then-count-from
unfolding outside
returns-then-count-from c = search (tests, rules)

pub returns-then-is_copy : goal.returns-then-is_copy
unfolding outside
returns-then-is_copy c = search (tests, rules)

pub returns-else-is_copy : goal.returns-else-is_copy
unfolding outside
returns-else-is_copy c = search (tests, rules)
