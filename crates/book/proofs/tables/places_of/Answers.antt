-- A sure item depends on none; another, on what held or pending depends on.
use Rattle.conditions.specs.Places.{places as width}
use Rattle.book.specs.Book.{item_depends}
use Rattle.book.proofs.Depended.{none-in-set, either-set}
use Rattle.book.proofs.tables.places_of.Goals as goal

pub returns-then-is_sure : goal.returns-then-is_sure
returns-then-is_sure c = none-in-set width (item_depends width c.args.x) (c.is_sure.ensures c.if-is_sure.true)

pub returns : goal.returns
returns c = either-set width c.args.x c.places.ensures c.places-2.ensures
