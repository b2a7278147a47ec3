-- The all-zero book is not sound; an opened book is.
use mathlib.Core.Path.{◌≡◌, refl, ap}
use mathlib.Core.Bool.{true, false, false≢true}
use mathlib.Core.List.{List, [], ◌∷◌}
use Prim.Native.Nat.{ℕ, zero, suc, ◌-◌, ◌≤◌, ◌<◌}
use native.Mathlib.Omega.{arith}
use lib.Dec.{leb, ltb}
use lib.ListN.{length, get_or, replicate}
use borrow.Author.Tests.{ltb-true, leb-true}
use Rattle.conditions.proofs.Laws.Below.{and_left, and_right, by_cases, five}
use Rattle.polyvalues.specs.Pairs.{certain}
use Rattle.polyvalues.specs.Polyvalues.{sound as sound_polyvalue}
use Rattle.polyvalues.proofs.Laws.Depends.{certain-free}
use Rattle.polyvalues.proofs.Laws.WellFormed.{certain-well_formed}
use Rattle.polyvalues.proofs.Laws.Packed.{in_use-packed, packed-sound}
use Rattle.book.specs.declared.Book.{Book}
use Rattle.book.specs.declared.Item.{Item}
use Rattle.book.specs.declared.Opening.{Opening}
use Rattle.book.specs.Book.{most_districts, most_items, no_record, no_item, no_open, no_book, void_item, record_at, item_at, open_at, record_on, item_on, is_open, item_depends}
use Rattle.book.specs.Sound.{Sound}
use Rattle.book.specs.SoundTest.{sound}
use Rattle.book.specs.Open.{no_opening, good_item, good_items, good_opening, opened_item, opened_book, opened}
use Rattle.book.proofs.Laws.Rows.{made_row, padded-row}
use Rattle.book.proofs.Laws.Sound.{test-sound}
use Rattle.book.proofs.Laws.But.{idle-district, but-sound}
use Rattle.book.proofs.Laws.Settling.{idle-row}

-- "the all-zero book, which is not sound"
pub no_book-unsound : (w : ℕ) → sound w (no_book w) ≡ false
unfolding no_book
no_book-unsound w = by_cases (sound w (no_book w)) (λ e. let some : 1 ≤ 0 = (test-sound w (no_book w) e).some_districts in absurd (omega arith)) (λ e. e)

-- ---- an item when its book is opened

record Fresh (w districts : ℕ) (x : Item) : Type 0 where
  belongs : x.district < districts
  held : sound_polyvalue w x.held ≡ true
  same : x.pending ≡ x.held
  free : (q : ℕ) → item_depends w x q ≡ false

fresh : (w districts : ℕ) (x : Opening) → good_item districts x ≡ true → Fresh w districts (opened_item w x)
unfolding opened_item item_depends
fresh w districts x e = record {
  belongs = ltb-true x.district districts (and_left (ltb x.district districts) _ e);
  held = packed-sound w (certain w x.value) (certain-well_formed w x.value (and_right (ltb x.district districts) _ e));
  same = refl;
  free = λ q. rw (in_use-packed (certain w x.value), certain-free w x.value q);
}

good-at : (districts : ℕ) (xs : List Opening) → good_items districts xs ≡ true → (i : ℕ) → i < length xs → good_item districts (get_or xs i no_opening) ≡ true
good-at districts [] e i h = absurd (omega arith)
good-at districts (x ∷ xs) e zero h = and_left (good_item districts x) _ e
good-at districts (x ∷ xs) e (suc i) h = good-at districts xs (and_right (good_item districts x) _ e) i (omega arith)

-- ---- rows of zeros

zeros : {A : Type 0} (n i : ℕ) (x : A) → get_or (replicate n x) i x ≡ x
zeros zero i x = refl
zeros (suc n) zero x = refl
zeros (suc n) (suc i) x = zeros n i x

-- ---- the book

pub opened-sound : (w districts : ℕ) (xs : List Opening) → good_opening districts xs ≡ true → Sound w (opened w districts xs)
unfolding good_opening opened opened_book record_on item_on
opened-sound w districts xs e = rw e book
  where
    b : Book
    b = opened_book w districts xs

    t : (leb 1 districts ≡ true) × (leb districts most_districts ≡ true) × (leb 1 (length xs) ≡ true) × (leb (length xs) most_items ≡ true) × (good_items districts xs ≡ true)
    t = five (leb 1 districts) (leb districts most_districts) (leb 1 (length xs)) (leb (length xs) most_items) (good_items districts xs) e

    few : length xs ≤ most_items
    few = leb-true (length xs) most_items t.3

    records : (d : ℕ) → record_at b d ≡ no_record
    records d = zeros most_districts d no_record

    opens : (q : ℕ) → open_at b q ≡ no_open
    opens q = zeros w q no_open

    items : (i : ℕ) → i < length xs → Fresh w districts (item_at b i)
    items i h = rw (made_row (opened_item w) xs _ no_opening void_item i h) (fresh w districts (get_or xs i no_opening) (good-at districts xs t.4 i h))

    shut : {P : Type 0} (q : ℕ) → is_open (open_at b q) ≡ true → P
    shut q h = absurd (false≢true (rw (opens q) at h))

    on : (x : Item) → item_on b x ≡ 0
    on x = ap record_on (records x.district)

    book : Sound w b
    book = but-sound w b (record {
      some_districts = leb-true 1 districts t.0;
      few_districts = leb-true districts most_districts t.1;
      some_items = leb-true 1 (length xs) t.2;
      few_items = few;
      last = omega arith;
      districts = λ d h. rw (records d) (idle-district w d _ _);
      items = λ i h. let x = items i h in idle-row w districts _ _ (item_at b i) x.belongs x.held x.same (on (item_at b i));
      opens = λ q h k. shut q k;
      differ = λ q h k. shut q k;
      past_districts = λ d h k. records d;
      past_items = λ i h k. padded-row (opened_item w) xs (most_items - length xs) no_item void_item i k (omega arith);
      free = λ q h k. opens q;
      free_unused = λ q h k i l. (items i l).free q;
    }) (λ q h k. shut q k)
