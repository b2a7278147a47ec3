use borrow.Author.Rules.{rules}
use borrow.Author.Tests.{tests}
use Rattle.book.specs.Items.{reduce_item}
use Rattle.book.proofs.items.reduced.Goals as goal

pub returns : goal.returns
unfolding reduce_item
returns c = search (tests, rules)
