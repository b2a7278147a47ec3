-- A book after an event on an open transaction: the transaction keeps its number and its place, every other place stays. What each row must then be for the book to be sound.
use mathlib.Core.Path.{◌≡◌, sym, ◌∙◌}
use mathlib.Core.Bool.{true, false, cond, true≢false}
use mathlib.Core.List.{List}
use Prim.Native.Nat.{ℕ, ◌≤◌, ◌<◌}
use lib.Dec.{eqb}
use borrow.Author.Tests.{ne_eqb}
use Rattle.conditions.proofs.Laws.Below.{by_cases}
use Rattle.book.specs.declared.Record.{Record}
use Rattle.book.specs.declared.Item.{Item}
use Rattle.book.specs.declared.Open.{Open}
use Rattle.book.specs.declared.Book.{Book}
use Rattle.book.specs.Book.{most_districts, most_items, no_record, no_item, record_at, item_at, open_at, item_on, is_open, place_of, item_depends, with_records, with_items, with_open}
use Rattle.book.proofs.Laws.But.{DistrictRow, ItemRow, OpenRow, SoundBut, place_of-same, row-alike}

-- the book with these tables
abbrev pub with_tables : Book → List Record → List Item → List Open → Book
with_tables b records items opens = with_open (with_items (with_records b records) items) opens

-- the tables after an event on the transaction at place q, whose row is then o
pub record Change (w : ℕ) (b : Book) (q : ℕ) (o : Open) (c : Book) : Type 0 where
  pub place : q < w
  pub was_open : is_open (open_at b q) ≡ true
  pub number : o.number ≡ (open_at b q).number
  pub opens : (p : ℕ) → open_at c p ≡ cond (eqb p q) o (open_at b p)
  pub row : OpenRow b.districts b.last.0 o
  pub districts : (d : ℕ) → d < b.districts
      → DistrictRow w d (place_of w b (record_at c d).transaction.0) (open_at c (place_of w b (record_at c d).transaction.0)) (record_at c d)
  pub items : (i : ℕ) → i < b.count → ItemRow w b.districts (item_on c (item_at c i)) (place_of w b (item_on c (item_at c i))) (item_at c i)
  pub past_districts : (d : ℕ) → d < most_districts → b.districts ≤ d → record_at c d ≡ no_record
  pub past_items : (i : ℕ) → i < most_items → b.count ≤ i → item_at c i ≡ no_item
  pub free_unused : (p : ℕ) → p < w → is_open (open_at b p) ≡ false → (i : ℕ) → i < b.count → item_depends w (item_at c i) p ≡ false

module _ (w : ℕ) (b : Book) (s : SoundBut w b) (records : List Record) (items : List Item) (opens : List Open) where
  abbrev c : Book
  c = with_tables b records items opens

  module _ (q : ℕ) (o : Open) (f : Change w b q o c) where
    here : (p : ℕ) → eqb p q ≡ true → open_at c p ≡ o
    here p e = f.opens p ∙ rw e

    other : (p : ℕ) → eqb p q ≡ false → open_at c p ≡ open_at b p
    other p e = f.opens p ∙ rw e

    numbers : (p : ℕ) → (open_at c p).number ≡ (open_at b p).number
    numbers p = rw (f.opens p) (row-alike (λ (x : Open). x.number) b q o f.number p)

    place : (n : ℕ) → place_of w c n ≡ place_of w b n
    place n = place_of-same w b c numbers n

    was : (p : ℕ) → is_open (open_at c p) ≡ is_open (open_at b p)
    was p = rw (numbers p)

    -- the place q is open, so a free one is another
    free : (p : ℕ) → is_open (open_at b p) ≡ false → eqb p q ≡ false
    free p k = ne_eqb p q (λ e. true≢false (sym f.was_open ∙ rw e at k))

    pub change-but : SoundBut w (with_tables b records items opens)
    change-but = record {
      some_districts = s.some_districts;
      few_districts = s.few_districts;
      some_items = s.some_items;
      few_items = s.few_items;
      last = s.last;
      districts = λ d h. rw (place (record_at c d).transaction.0) (f.districts d h);
      items = λ i h. rw (place (item_on c (item_at c i))) (f.items i h);
      opens = λ p h k.
          by_cases (eqb p q)
          (λ e. rw (here p e) f.row)
          (λ e. rw (other p e) (s.opens p h (sym (was p) ∙ k)));
      differ = λ p h k m l same. s.differ p h (sym (was p) ∙ k) m l (rw (numbers m, numbers p) at same);
      past_districts = f.past_districts;
      past_items = f.past_items;
      free = λ p h k. let e = sym (was p) ∙ k in other p (free p e) ∙ s.free p h e;
      free_unused = λ p h k. f.free_unused p h (sym (was p) ∙ k);
    }
