-- Rows of zeros.
use mathlib.Core.Path.{ap}
use lib.ListN.{replicate}
use Rattle.conditions.specs.Places.{places}
use Rattle.book.specs.declared.Item.{Item}
use Rattle.book.specs.Book.{most_items, no_book, with_items}
use Rattle.book.proofs.maker.zero_book.Goals as goal

pub returns : goal.returns
unfolding no_book
returns c = ap (λ (x : Item). with_items (no_book places) (replicate most_items x)) c.zero_item.ensures
