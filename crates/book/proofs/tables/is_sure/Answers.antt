use Rattle.book.specs.Book.{item_depends}
use Rattle.book.proofs.tables.is_sure.Goals as goal

pub returns-then-is_certain : goal.returns-then-is_certain
unfolding item_depends
returns-then-is_certain c e q = rw (c.is_certain.ensures c.if-is_certain.true q, c.is_certain-then-is_certain.ensures e q)
