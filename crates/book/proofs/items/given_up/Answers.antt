use borrow.Author.Rules.{rules}
use borrow.Author.Tests.{tests}
use Rattle.book.specs.GiveUp.{give_up_item}
use Rattle.book.proofs.items.given_up.Goals as goal

pub returns-then-not-is_concerned : goal.returns-then-not-is_concerned
unfolding give_up_item
returns-then-not-is_concerned c = λ b e. search (rules, tests)

pub returns-then-computing : goal.returns-then-computing
unfolding give_up_item
returns-then-computing c = λ b e. search (rules, tests)

pub returns-else-computing : goal.returns-else-computing
unfolding give_up_item
returns-else-computing c = λ b e. search (rules, tests)
