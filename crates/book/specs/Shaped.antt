-- A book as code holds it: its tables have all their rows, also those past the counts. Every book that is handed to a call has them, so that document 01 need not say it;
-- a book of these definitions might not, and so it stands beside `Sound` in what is said of every book.
use Rattle.std.specs.Prelude.{◌≡◌, ℕ, ◌<◌, length}
use Rattle.polyvalues.specs.Polyvalues.{AllRows}
use Rattle.book.specs.declared.Item.{Item}
use Rattle.book.specs.declared.Book.{Book}
use Rattle.book.specs.Book.{most_districts, most_items, item_at}
use Rattle.book.specs.Sound.{Sound}

-- an item's two polyvalues
pub record ShapedItem (x : Item) : Type 0 where
  pub held : AllRows x.held
  pub pending : AllRows x.pending

-- a book of w places
pub record Shaped (w : ℕ) (b : Book) : Type 0 where
  pub records : length b.records ≡ most_districts
  pub items : length b.items ≡ most_items
  pub places : length b.«open» ≡ w
  pub rows : (i : ℕ) → i < most_items → ShapedItem (item_at b i)

-- a sound book that code may hold
pub record Whole (w : ℕ) (b : Book) : Type 0 where
  pub sound : Sound w b
  pub shaped : Shaped w b
