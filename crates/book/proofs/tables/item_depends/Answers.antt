use borrow.Author.Rules.{rules}
use Rattle.book.specs.Book.{item_depends}
use Rattle.book.proofs.tables.item_depends.Goals as goal

pub returns-then-depends : goal.returns-then-depends
unfolding item_depends
returns-then-depends c = search rules

pub returns-else-depends : goal.returns-else-depends
unfolding item_depends
returns-else-depends c = search rules
