-- "Open. Only a good sheet opens a book: certain values, pending equal to held, all districts idle, none open, last number 0." (document 01, Events)
-- "a call that makes a book returns, refused, the all-zero book" (Answer numbers)
use Rattle.std.specs.Prelude.{Bool, ◌&&◌, cond, List, ◌++◌, map, ℕ, ◌-◌, ltb, pos, length, replicate}
use Rattle.polyvalues.specs.declared.polyvalue.Polyvalue.{Polyvalue}
use Rattle.polyvalues.specs.Values.{in_range}
use Rattle.polyvalues.specs.Pairs.{certain}
use Rattle.polyvalues.specs.Polyvalues.{each, packed}
use Rattle.book.specs.declared.Book.{Book}
use Rattle.book.specs.declared.Item.{Item}
use Rattle.book.specs.declared.Opening.{Opening}
use Rattle.book.specs.Book.{most_districts, most_items, good_counts, no_record, no_item, no_open, no_book}

-- an opening of zeros: what is read past the end of a list
abbrev pub no_opening : Opening
no_opening = record { district = 0; value = pos 0 }

-- an item is in one of the districts and has a value in range
abbrev pub good_item : ℕ → Opening → Bool
good_item districts x = ltb x.district districts && in_range x.value

-- each item is good
abbrev pub good_items : ℕ → List Opening → Bool
good_items districts xs = each (good_item districts) xs

-- "1 to 8 districts, 1 to 32 items", each item good
unfoldable pub good_opening : ℕ → List Opening → Bool
good_opening districts xs = good_counts districts (length xs) && good_items districts xs

-- an item when its book is opened
unfoldable pub opened_item : ℕ → Opening → Item
opened_item w x = let value : Polyvalue = packed (certain w x.value) in record { district = x.district; held = value; pending = value }

-- the book of these districts and items
unfoldable pub opened_book : ℕ → ℕ → List Opening → Book
opened_book w districts xs = record {
  last = record { 0 = 0 };
  districts = districts;
  records = replicate most_districts no_record;
  count = length xs;
  items = map (opened_item w) xs ++ replicate (most_items - length xs) no_item;
  «open» = replicate w no_open;
}

-- the call: the count of districts, and each item's district and value
unfoldable pub opened : ℕ → ℕ → List Opening → Book
opened w districts xs = cond (good_opening districts xs) (opened_book w districts xs) (no_book w)
