-- An opened book has the lengths that code gives it, and so is whole: what the laws of the calls ask for is there from the start.
use mathlib.Core.Path.{◌≡◌}
use mathlib.Core.Bool.{true}
use mathlib.Core.List.{List, [], ◌++◌, map}
use Prim.Native.Nat.{ℕ, ◌+◌, ◌-◌, ◌≤◌, ◌<◌}
use native.Mathlib.Omega.{arith}
use lib.Dec.{leb, ltb}
use lib.ListN.{length, get_or, replicate, length-append, length-map, length-replicate}
use borrow.Author.Tests.{leb-true, ltb-true, ltb-false}
use Rattle.polyvalues.specs.Pairs.{certain}
use Rattle.book.specs.declared.Opening.{Opening}
use Rattle.book.specs.Book.{most_districts, most_items, no_record, no_item, no_open, void_item}
use Rattle.book.specs.Open.{no_opening, good_items, good_opening, opened_item, opened_book, opened}
use Rattle.conditions.proofs.Laws.Below.{by_cases, five}
use Rattle.book.proofs.Laws.Rows.{made_row, padded-row}
use Rattle.book.proofs.Laws.Open.{opened-sound}
use Rattle.book.specs.Shaped.{ShapedItem, Shaped, Whole}
use Rattle.polyvalues.proofs.Laws.Paired.{packed-rows}

opened_item-shaped : (w : ℕ) (x : Opening) → ShapedItem (opened_item w x)
unfolding opened_item certain
opened_item-shaped w x = let e = packed-rows (certain w x.value) (omega arith) in record { held = e; pending = e }

no_item-shaped : ShapedItem no_item
unfolding no_item
no_item-shaped = let e = packed-rows [] (omega arith) in record { held = e; pending = e }

rows-shaped : (w : ℕ) (xs : List Opening) (n i : ℕ) → i < length xs + n → ShapedItem (get_or (map (opened_item w) xs ++ replicate n no_item) i void_item)
rows-shaped w xs n i h =
    by_cases (ltb i (length xs))
    (λ k. rw (made_row (opened_item w) xs (replicate n no_item) no_opening void_item i (ltb-true i (length xs) k)) (opened_item-shaped w (get_or xs i no_opening)))
    (λ k. rw (padded-row (opened_item w) xs n no_item void_item i (ltb-false i (length xs) k) h) no_item-shaped)

pub opened-whole : (w districts : ℕ) (xs : List Opening) → good_opening districts xs ≡ true → Whole w (opened w districts xs)
unfolding good_opening opened opened_book
opened-whole w districts xs e =
    let few : length xs ≤ most_items =
    leb-true (length xs) most_items (five (leb 1 districts) (leb districts most_districts) (leb 1 (length xs)) (leb (length xs) most_items) (good_items districts xs) e).3 in
    let shaped : Shaped w (opened_book w districts xs) = record {
      records = length-replicate most_districts no_record;
      items = omega (arith, length-append (map (opened_item w) xs) (replicate (most_items - length xs) no_item), length-map xs (opened_item w), length-replicate (most_items - length xs) no_item);
      places = length-replicate w no_open;
      rows = λ i h. rows-shaped w xs (most_items - length xs) i (omega arith);
    } in
    record { sound = opened-sound w districts xs e; shaped = rw e shaped }
