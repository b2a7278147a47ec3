-- An opened book: each item has its opening value under every assignment, no transaction is open, and there is no past. So the invariant holds from the start.
use mathlib.Core.Path.{◌≡◌, refl, sym, ◌∙◌, ap}
use mathlib.Core.Bool.{true, false, false≢true}
use mathlib.Core.List.{List, []}
use Prim.Native.Nat.{ℕ, ◌^◌, ◌<◌}
use lib.IntN.{ℤ}
use lib.ListN.{length, get_or-replicate}
use Rattle.polyvalues.specs.Pairs.{at, certain}
use Rattle.polyvalues.specs.Polyvalues.{in_use, packed}
use Rattle.polyvalues.proofs.Laws.Canon.{certain-canon}
use Rattle.book.specs.declared.Item.{Item}
use Rattle.book.specs.declared.Opening.{Opening}
use Rattle.book.specs.Book.{no_open, item_at, open_at, is_open}
use Rattle.book.specs.Open.{good_opening, opened_item, opened_book, opened}
use Rattle.book.proofs.Laws.Rows.{made_row}
use Rattle.book.proofs.Laws.Values.{made_at}
use Rattle.book.proofs.Laws.OpenedShaped.{opened-whole}
use Rattle.demands.specs.Past.{ever, began, serial}
use Rattle.demands.specs.Demands.{opening_of}
use Rattle.demands.proofs.Ledger.{Ledger}
use Rattle.demands.proofs.Choosing.{chosen-one}
use Rattle.demands.proofs.Invariant.{Inv}

module _ (w districts : ℕ) (xs : List Opening) (good : good_opening districts xs ≡ true) where
  pub opened-count : (opened w districts xs).count ≡ length xs
  unfolding opened opened_book
  opened-count = rw good

  item : (i : ℕ) → i < length xs → item_at (opened w districts xs) i ≡ opened_item w (opening_of xs i)
  unfolding opened opened_book
  item i h = rw good (made_row (opened_item w) xs _ _ _ i h)

  pub opened-district : (i : ℕ) → i < length xs → (item_at (opened w districts xs) i).district ≡ (opening_of xs i).district
  unfolding opened_item
  opened-district i h = ap (λ (x : Item). x.district) (item i h)

  certain-at : (v : ℤ) (a : ℕ) → a < 2 ^ w → at (in_use (packed (certain w v))) a ≡ v
  certain-at v = made_at w (λ c. v) (certain w v) (certain-canon w v)

  -- no place is open
  free : (q : ℕ) → q < w → is_open (open_at (opened w districts xs) q) ≡ false
  unfolding opened opened_book
  free q h = rw (good, get_or-replicate w q no_open no_open h)

  ledger : Ledger w (opened w districts xs) []
  unfolding ever began opened opened_book
  ledger = record {
    marks = λ q h k. absurd (false≢true (sym (free q h) ∙ k));
    fresh = λ n h. record { completed = refl; aborted = refl; ready = λ d. refl; gave = refl };
    once = λ n e. refl;
    last = rw good;
  }

  pub opened-inv : Inv w (λ j. (opening_of xs j).value) (opened w districts xs) []
  unfolding serial opened_item
  opened-inv = record {
    whole = opened-whole w districts xs good;
    ledger = ledger;
    main = λ g legal a says i h.
        let h' : i < length xs = rw opened-count at h in
        let v = (opening_of xs i).value in
        chosen-one (opened w districts xs) g a i v
        (ap (λ (x : Item). at (in_use x.held) a) (item i h') ∙ certain-at v a says.assignment)
        (ap (λ (x : Item). at (in_use x.pending) a) (item i h') ∙ certain-at v a says.assignment);
  }
