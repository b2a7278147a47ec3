use borrow.Author.Rules.{rules}
use borrow.Author.Tests.{tests}
use Rattle.book.specs.Hear.{hear_item}
use Rattle.book.proofs.items.heard.Goals as goal

pub returns-then-x-at : goal.returns-then-x-at
unfolding hear_item
returns-then-x-at c = λ b e. search (rules, tests)

pub returns : goal.returns
unfolding hear_item
returns c = λ b e. search (rules, tests)
