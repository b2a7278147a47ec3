-- Forgetting keeps what is sound, and makes a book sound that was so but for the transactions which no district and no polyvalue needs any more.
use mathlib.Core.Path.{◌≡◌, refl, sym, ◌∙◌, ap}
use mathlib.Core.Bool.{Bool, true, false, not, ◌||◌, true≢false, false≢true}
use Prim.Native.Nat.{ℕ, ◌<◌}
use native.Mathlib.Omega.{arith}
use lib.Dec.{eqb}
use borrow.Author.Tests.{eq-eqb, eqb-false, not-true}
use Rattle.conditions.proofs.Laws.Below.{or_right, by_cases, any_none, any_of}
use Rattle.book.specs.declared.Record.{Record}
use Rattle.book.specs.declared.Open.{Open}
use Rattle.book.specs.declared.Book.{Book}
use Rattle.book.specs.Book.{no_open, record_at, item_at, open_at, idle, record_on, item_on, is_open, named, place_of, item_depends, some_depends, some_on}
use Rattle.book.specs.Forget.{decided, needed, kept, remembered, forget}
use Rattle.book.specs.Sound.{Sound}
use Rattle.book.proofs.Laws.Rows.{length-rows, get_or-rows}
use Rattle.book.proofs.Laws.Forget.{kept-needed}
use Rattle.book.proofs.Laws.Sound.{place-named}
use Rattle.book.specs.Shaped.{Shaped}
use Rattle.book.proofs.Laws.But.{SoundBut, place_of-kept, seen_same, district-stays, item-stays, item-place, busy-on, but-sound}

-- forgetting keeps the lengths
pub forget-shaped : (w : ℕ) (b : Book) → Shaped w b → Shaped w (forget w b)
unfolding forget
forget-shaped w b t =
    record { records = t.records; items = t.items; places = length-rows (remembered w b) no_open w b.«open» ∙ t.places; rows = t.rows }

-- the places afterwards
pub forget-row : (w : ℕ) (b : Book) → Shaped w b → (q : ℕ) → q < w → open_at (forget w b) q ≡ remembered w b q (open_at b q)
unfolding forget
forget-row w b t q h = get_or-rows (remembered w b) no_open w b.«open» q h (omega (arith, t.places))

module _ (w : ℕ) (b : Book) (s : SoundBut w b) (t : Shaped w b) where
  abbrev c : Book
  c = forget w b

  after : (q : ℕ) → q < w → open_at c q ≡ remembered w b q (open_at b q)
  after = forget-row w b t

  -- a place is kept, or freed as nobody needs it
  data Fate (q : ℕ) : Type 0 where
    stays : open_at c q ≡ open_at b q → kept w b q (open_at b q) ≡ true → Fate q
    freed : open_at c q ≡ no_open → needed w b q (open_at b q) ≡ false → Fate q

  fate : (q : ℕ) → q < w → Fate q
  unfolding remembered kept
  fate q h =
      by_cases (kept w b q (open_at b q))
      (λ k. stays (after q h ∙ rw k) k)
      (λ k. freed (after q h ∙ rw k) (or_right (not (decided (open_at b q))) _ k))

  still : (q : ℕ) → Fate q → is_open (open_at c q) ≡ true → (open_at c q ≡ open_at b q) × (kept w b q (open_at b q) ≡ true)
  still q (stays e n) k = (e, n)
  still q (freed e n) k = absurd (false≢true (rw e at k))

  -- what is open afterwards is as it was
  pub forget-open : (q : ℕ) → q < w → is_open (open_at (forget w b) q) ≡ true → open_at (forget w b) q ≡ open_at b q
  forget-open q h k = (still q (fate q h) k).0

  -- "a decided transaction is closed .. exactly when no district is on it and no held or pending polyvalue depends on it"
  pub forget-is_open : (q : ℕ) → q < w → is_open (open_at b q) ≡ true → is_open (open_at (forget w b) q) ≡ kept w b q (open_at b q)
  unfolding remembered
  forget-is_open q h k = rw (after q h) (by_cases (kept w b q (open_at b q)) (λ n. rw n k) (λ n. rw n))

  gone : (q : ℕ) → Fate q → q < w → is_open (open_at c q) ≡ false → (open_at c q ≡ no_open) × ((i : ℕ) → i < b.count → item_depends w (item_at b i) q ≡ false)
  unfolding needed some_depends
  gone q (stays e n) h k = let f : is_open (open_at b q) ≡ false = rw e at k in (e ∙ s.free q h f, s.free_unused q h f)
  gone q (freed e n) h k = (e, any_none b.count (λ i. item_depends w (item_at b i) q) (or_right (some_on b (open_at b q).number.0) _ n))

  -- the transaction that a busy district is on keeps its place and its row
  needs : (d : ℕ) → d < b.districts → idle (record_at b d) ≡ false → needed w b (place_of w b (record_at b d).transaction.0) (open_at b (place_of w b (record_at b d).transaction.0)) ≡ true
  unfolding needed some_on
  needs d h k =
      let r : Record = record_at b d in
      let p : ℕ = place_of w b r.transaction.0 in
      let own : record_on r ≡ (open_at b p).number.0 = busy-on r k ∙ sym (place-named w b r.transaction.0 ((s.districts d h).busy_open k)).0 in
      let on : some_on b (open_at b p).number.0 ≡ true = any_of b.districts (λ e. eqb (record_on (record_at b e)) (open_at b p).number.0) d h (eq-eqb (record_on r) (open_at b p).number.0 own) in
      ap (λ (x : Bool). x || some_depends w b p) on

  row : (q : ℕ) → Fate q → needed w b q (open_at b q) ≡ true → open_at c q ≡ open_at b q
  row q (stays e n) k = e
  row q (freed e n) k = absurd (true≢false (sym k ∙ n))

  its_row : (d : ℕ) → d < b.districts → idle (record_at b d) ≡ false → open_at c (place_of w b (record_at b d).transaction.0) ≡ open_at b (place_of w b (record_at b d).transaction.0)
  its_row d h k = let p : ℕ = place_of w b (record_at b d).transaction.0 in row p (fate p ((s.districts d h).busy_open k)) (needs d h k)

  earlier : (n j : ℕ) → Fate j → named n (open_at b j) ≡ false → named n (open_at c j) ≡ false
  earlier n j (stays e _) k = ap (named n) e ∙ k
  earlier n j (freed e _) k = ap (named n) e

  place : (d : ℕ) → d < b.districts → idle (record_at b d) ≡ false → place_of w c (record_at b d).transaction.0 ≡ place_of w b (record_at b d).transaction.0
  place d h k =
      let n : ℕ = (record_at b d).transaction.0 in
      place_of-kept w b c n ((s.districts d h).busy_open k) (ap (named n) (its_row d h k))
      (λ j l. earlier n j (fate j (omega (arith, (s.districts d h).busy_open k))))

  forget_but : SoundBut w (forget w b)
  unfolding forget item_on
  forget_but = record {
    some_districts = s.some_districts;
    few_districts = s.few_districts;
    some_items = s.some_items;
    few_items = s.few_items;
    last = s.last;
    districts = λ d h.
        district-stays w d _ _ _ _ (record_at b d) (s.districts d h) (place d h)
        (λ k. seen_same d _ _ (ap (open_at c) (place d h k) ∙ its_row d h k));
    items = λ i h. item-stays w b.districts _ _ _ _ (item_at b i) (s.items i h) refl (item-place w b c (item_at b i) (place _ (s.items i h).belongs));
    opens = λ q h k. let e = (still q (fate q h) k).0 in rw e (s.opens q h (rw e at k));
    differ = λ q h k p l same. let e = (still q (fate q h) k).0 in other q h (rw e at k) p l (fate p (omega arith)) (same ∙ ap (λ (o : Open). o.number.0) e);
    past_districts = s.past_districts;
    past_items = s.past_items;
    free = λ q h k. (gone q (fate q h) h k).0;
    free_unused = λ q h k. (gone q (fate q h) h k).1;
  }
    where
      other : (q : ℕ) → q < w → is_open (open_at b q) ≡ true → (p : ℕ) → p < q → Fate p → (open_at c p).number.0 ≡ (open_at b q).number.0 → ⊥
      other q h k p l (stays e _) same = s.differ q h k p l (sym (ap (λ (o : Open). o.number.0) e) ∙ same)
      other q h k p l (freed e _) same = eqb-false (open_at b q).number.0 0 (not-true _ k) (sym same ∙ ap (λ (o : Open). o.number.0) e)

  -- "a decided transaction is closed, and its place freed, exactly when no district is on it and no held or pending polyvalue depends on it": those left are needed
  pub forget-makes-sound : Sound w (forget w b)
  unfolding forget needed some_on some_depends
  forget-makes-sound = but-sound w c forget_but (λ q h k l. let e = still q (fate q h) k in rw e.0 (kept-needed w b q (open_at b q) e.1 (rw e.0 at l)))
