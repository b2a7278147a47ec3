use borrow.Author.Rules.{rules}
use borrow.Author.Tests.{tests}
use Rattle.book.specs.Open.{opened_item}
use Rattle.book.proofs.Opening.opened.Goals as goal

pub returns : goal.returns
unfolding opened_item
returns c = search (tests, rules)
