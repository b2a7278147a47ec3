-- As the code hands a book's small tables on: all of it but the items, and the set of the places that these depend on.
use Rattle.std.specs.Prelude.{◌≡◌, ℕ, ◌<◌}
use Rattle.conditions.specs.Sets.{member}
use Rattle.book.specs.declared.Book.{Book}
use Rattle.book.specs.declared.tables.Tables.{Tables}
use Rattle.book.specs.Book.{some_depends}

-- t has the tables of the book b
pub record TablesOf (w : ℕ) (b : Book) (t : Tables) : Type 0 where
  pub last : b.last ≡ t.last
  pub districts : b.districts ≡ t.districts
  pub records : b.records ≡ t.records
  pub places : b.«open» ≡ t.«open»
  pub depended : (q : ℕ) → q < w → member t.depended q ≡ some_depends w b q
