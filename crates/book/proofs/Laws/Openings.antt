-- Items in rows open the book of the items that count; a count past the rows opens none.
use mathlib.Core.Path.{◌≡◌}
use Prim.Native.Nat.{ℕ, ◌≤◌, ◌<◌}
use borrow.Author.Tests.{le-leb, lt-leb}
use Rattle.book.specs.declared.maker.Openings.{Openings}
use Rattle.book.specs.Book.{most_items, no_book}
use Rattle.book.specs.Open.{opened}
use Rattle.book.specs.Openings.{openings_of, opened_rows}

module _ (w districts : ℕ) (t : Openings) where
  pub rows-opened : t.count ≤ most_items → opened_rows w districts t ≡ opened w districts (openings_of t)
  unfolding opened_rows
  rows-opened h = rw (le-leb t.count most_items h)

  pub too_many_rows : most_items < t.count → opened_rows w districts t ≡ no_book w
  unfolding opened_rows
  too_many_rows h = rw (lt-leb t.count most_items h)
