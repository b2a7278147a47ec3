-- "A book of items .. spread over districts" (document 01, What is to be built): its tables, and what one reads off them.
use Rattle.std.specs.Prelude.{Bool, true, not, ◌&&◌, ◌||◌, cond, List, [], ℕ, eqb, leb, get_or, replicate}
use Rattle.conditions.specs.Below.{any, first}
use Rattle.conditions.specs.Places.{with_place}
use Rattle.polyvalues.specs.declared.polyvalue.Polyvalue.{Polyvalue}
use Rattle.polyvalues.specs.Pairs.{depends}
use Rattle.polyvalues.specs.Polyvalues.{in_use, packed}
use Rattle.book.specs.declared.Record.{Record}
use Rattle.book.specs.declared.Item.{Item}
use Rattle.book.specs.declared.Open.{Open}
use Rattle.book.specs.declared.Book.{Book}

-- "1 to 8 districts"
abbrev pub most_districts : ℕ
most_districts = 8

-- "1 to 32 items"
abbrev pub most_items : ℕ
most_items = 32

-- "1 to 8 districts, 1 to 32 items": a book may have so many districts and so many items
abbrev pub good_counts : ℕ → ℕ → Bool
good_counts districts items = leb 1 districts && leb districts most_districts && leb 1 items && leb items most_items

-- "Numbers are given 1, 2, 3 up to 65,535."
abbrev pub last_number : ℕ
last_number = 65535

-- ---- rows that hold zeros

-- an idle district's record, and one past the count
abbrev pub no_record : Record
no_record = record { phase = 0; transaction = record { 0 = 0 } }

-- a free place
abbrev pub no_open : Open
no_open = record { number = record { 0 = 0 }; touched = 0; ready = 0; gave = 0; decision = 0 }

-- an item past the count
unfoldable pub no_item : Item
no_item = record { district = 0; held = packed []; pending = packed [] }

-- "the all-zero book", of w places
unfoldable pub no_book : ℕ → Book
no_book w = record {
  last = record { 0 = 0 };
  districts = 0;
  records = replicate most_districts no_record;
  count = 0;
  items = replicate most_items no_item;
  «open» = replicate w no_open;
}

-- what the logic reads past the end of an array: an array inside has no rows there, so this is no row of a book
abbrev pub void : Polyvalue
void = record { count = 0; values = []; conditions = [] }

-- the same of a table of items
abbrev pub void_item : Item
void_item = record { district = 0; held = void; pending = void }

-- ---- rows by number

-- the record of district d
abbrev pub record_at : Book → ℕ → Record
record_at b d = get_or b.records d no_record

-- item number i
abbrev pub item_at : Book → ℕ → Item
item_at b i = get_or b.items i void_item

-- what place q holds
abbrev pub open_at : Book → ℕ → Open
open_at b q = get_or b.«open» q no_open

-- ---- "Each district has a record: idle (0), computing (1) or waiting (2), and on which transaction (its number)."

-- idle (0)
abbrev pub idle : Record → Bool
idle r = eqb r.phase 0

-- computing (1)
abbrev pub computing : Record → Bool
computing r = eqb r.phase 1

-- waiting (2)
abbrev pub waiting : Record → Bool
waiting r = eqb r.phase 2

-- the number of the transaction that a district with this record is on, and 0 where it is idle
unfoldable pub record_on : Record → ℕ
record_on r = cond (idle r) 0 r.transaction.0

-- the number of the transaction that an item is on, and 0 where it is on none: its district's. Nothing else says which transaction an item is on.
unfoldable pub item_on : Book → Item → ℕ
item_on b x = record_on (record_at b x.district)

-- ---- "Up to 6 transactions are open at once. Each has a tag place 0 to 5, the lowest free one, and a transaction number."

-- a place is free where its number is 0
abbrev pub is_open : Open → Bool
is_open o = not (eqb o.number.0 0)

-- the transaction at this place has the number n
abbrev pub named : ℕ → Open → Bool
named n o = is_open o && eqb o.number.0 n

-- the place of the open transaction number n, or w where none has it
unfoldable pub place_of : ℕ → Book → ℕ → ℕ
place_of w b n = first w (λ q. named n (open_at b q))

-- the row of that transaction; where there is none, what is read at w: zeros, if the table has w rows
abbrev pub open_of : ℕ → Book → ℕ → Open
open_of w b n = open_at b (place_of w b n)

-- "the lowest free one", or w where none is free
unfoldable pub free_place : ℕ → Book → ℕ
free_place w b = first w (λ q. not (is_open (open_at b q)))

-- "Written as a number, a set of districts adds 2 to the power d for each district d.": the districts of s, and d
abbrev pub including : ℕ → ℕ → ℕ
including s d = with_place most_districts s d true

-- ---- what depends on a place, and who is on a transaction

-- "held or pending polyvalue depends on" place q
unfoldable pub item_depends : ℕ → Item → ℕ → Bool
item_depends w x q = depends w (in_use x.held) q || depends w (in_use x.pending) q

-- an item's held or pending polyvalue does
unfoldable pub some_depends : ℕ → Book → ℕ → Bool
some_depends w b q = any b.count (λ i. item_depends w (item_at b i) q)

-- a district is on the transaction number n
unfoldable pub some_on : Book → ℕ → Bool
some_on b n = any b.districts (λ d. eqb (record_on (record_at b d)) n)

-- ---- a book with one table changed

-- its records
abbrev pub with_records : Book → List Record → Book
with_records b t = record { last = b.last; districts = b.districts; records = t; count = b.count; items = b.items; «open» = b.«open» }

-- its items
abbrev pub with_items : Book → List Item → Book
with_items b t = record { last = b.last; districts = b.districts; records = b.records; count = b.count; items = t; «open» = b.«open» }

-- its places
abbrev pub with_open : Book → List Open → Book
with_open b t = record { last = b.last; districts = b.districts; records = b.records; count = b.count; items = b.items; «open» = t }
