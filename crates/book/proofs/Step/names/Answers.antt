use borrow.Author.Rules.{rules}
use borrow.Author.Tests.{tests}
use Rattle.book.specs.Programs.{names}
use Rattle.book.proofs.Step.names.Goals as goal

pub returns-then-from-i : goal.returns-then-from-i
unfolding names
returns-then-from-i c = search (tests, rules)

pub returns-then-is_copy : goal.returns-then-is_copy
unfolding names
returns-then-is_copy c = search (tests, rules)

pub returns-else-is_copy : goal.returns-else-is_copy
unfolding names
returns-else-is_copy c = search (tests, rules)
