use borrow.Author.Rules.{rules}
use borrow.Author.Tests.{tests}
use Rattle.book.specs.Items.{concerned}
use Rattle.book.specs.Book.{item_on}
use Rattle.book.proofs.items.is_concerned.Goals as goal

pub returns-then-x-at : goal.returns-then-x-at
unfolding concerned item_on
returns-then-x-at c = λ b e. search (rules, tests)

pub returns-else-x-at : goal.returns-else-x-at
unfolding concerned item_on
returns-else-x-at c = λ b e. search (rules, tests)
