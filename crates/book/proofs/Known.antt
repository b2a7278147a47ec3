-- What holding a book tells of it: its tables have all their rows.
use mathlib.Core.Path.{◌≡◌}
use mathlib.Core.List.{List}
use denote.Shadow.{shadow}
use lib.ListN.{length}
use mir.Val.{Val}
use Rattle.conditions.specs.Places.{places}
use Rattle.book.specs.declared.Book.{Book}
use Rattle.book.specs.declared.tables.Tables.{Tables}
use Rattle.book.specs.Book.{most_districts, most_items}
use Rattle.book.specs.contracts.Book as TBook
use Rattle.book.specs.contracts.tables.Tables as TTables

-- b is a value that code holds
pub record Held (b : Book) : Type 0 where
  pub values : List Val
  pub own : shadow ((TBook.the_field).row.own_val ((TBook.the_field).into b) values)

pub records-long : {b : Book} → Held b → length b.records ≡ most_districts
records-long {b} h = h.own.1.1.1.1.0.1.0.1

pub items-long : {b : Book} → Held b → length b.items ≡ most_items
items-long {b} h = h.own.1.1.1.1.1.1.0.1.0.1

pub open-long : {b : Book} → Held b → length b.«open» ≡ places
open-long {b} h = h.own.1.1.1.1.1.1.1.0.1.0.1

-- t is such a value
pub record HeldTables (t : Tables) : Type 0 where
  pub values : List Val
  pub own : shadow ((TTables.the_field).row.own_val ((TTables.the_field).into t) values)

pub places-long : {t : Tables} → HeldTables t → length t.«open» ≡ places
places-long {t} h = h.own.1.1.1.1.1.0.1.0.1
