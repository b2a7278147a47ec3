-- The items of a book that is to be opened as the code keeps them, in rows. Any count and any rows may be handed in.
use Rattle.std.specs.Prelude.{cond, List, ℕ, leb, take}
use Rattle.book.specs.declared.Book.{Book}
use Rattle.book.specs.declared.Opening.{Opening}
use Rattle.book.specs.declared.maker.Openings.{Openings}
use Rattle.book.specs.Book.{most_items, no_book}
use Rattle.book.specs.Open.{opened}

-- the items that count
unfoldable pub openings_of : Openings → List Opening
openings_of t = take t.count t.items

-- the call: a count past the rows is refused, as more items than 32 are
unfoldable pub opened_rows : ℕ → ℕ → Openings → Book
opened_rows w districts t =
    let new : Book = opened w districts (openings_of t) in
    cond (leb t.count most_items) new (no_book w)
