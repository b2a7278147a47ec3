-- Rows of zeros.
use Rattle.book.specs.Book.{no_item}
use Rattle.book.proofs.maker.zero_item.Goals as goal

pub returns : goal.returns
unfolding no_item
returns c = rw c.nothing-zero.ensures
