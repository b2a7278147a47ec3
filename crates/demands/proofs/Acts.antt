-- An accepted call on an open transaction: before it forgets, its event changes records, items and the transaction's row alone; what is open afterwards is as the event left it.
use mathlib.Core.Path.{◌≡◌, sym, ◌∙◌, ap}
use mathlib.Core.Bool.{Bool, true, false, not, ◌||◌}
use Prim.Native.Nat.{ℕ, ◌<◌}
use native.Mathlib.Omega.{arith}
use lib.Dec.{eqb, ltb}
use borrow.Author.Tests.{eqb-false, ltb-true, ltb-false}
use Rattle.conditions.proofs.Laws.Below.{by_cases}
use Rattle.conditions.specs.declared.place.TransactionNumber.{TransactionNumber}
use Rattle.book.specs.declared.Book.{Book}
use Rattle.book.specs.declared.Open.{Open}
use Rattle.book.specs.Book.{record_at, item_at, open_at, is_open, place_of, some_depends, some_on, open_of}
use Rattle.book.specs.Answers.{Answer, accepted}
use Rattle.book.specs.Transactions.{done}
use Rattle.book.specs.Forget.{decided, needed, kept, remembered, forget}
use Rattle.book.specs.Sound.{Sound}
use Rattle.book.specs.Shaped.{Whole}
use Rattle.book.proofs.Laws.Sound.{place-named}
use Rattle.book.proofs.Laws.But.{place-open, row-alike}
use Rattle.book.proofs.Laws.Forgetting.{forget-row, forget-open, forget-is_open}
use Rattle.book.proofs.Laws.Calls.{WholeBut, forgotten, done-accepted}
use Rattle.demands.specs.Calls.{Call}
use Rattle.demands.specs.Past.{asks_begin}
use Rattle.demands.specs.Demands.{row_with, open_after, Leaves}

-- ---- what an accepted call leaves before it forgets

-- the tables that c has from e, where c is e after forgetting
pub record Left (w : ℕ) (e c : Book) : Type 0 where
  pub whole : Whole w c
  pub last : c.last ≡ e.last
  pub districts : c.districts ≡ e.districts
  pub count : c.count ≡ e.count
  pub records : (d : ℕ) → record_at c d ≡ record_at e d
  pub opens : (q : ℕ) → q < w → is_open (open_at c q) ≡ true → open_at c q ≡ open_at e q
  pub stays : (q : ℕ) → q < w → is_open (open_at e q) ≡ true → is_open (open_at c q) ≡ kept w c q (open_at e q)
  pub rows : (q : ℕ) → q < w → open_at c q ≡ remembered w c q (open_at e q)

pub left : (w : ℕ) (e c : Book) → c ≡ forget w e → WholeBut w e → Left w e c
unfolding forget kept needed remembered some_on some_depends
left w e c same f = record {
  whole = rw same (forgotten w e f);
  last = ap (λ (b : Book). b.last) same;
  districts = ap (λ (b : Book). b.districts) same;
  count = ap (λ (b : Book). b.count) same;
  records = λ d. ap (λ (b : Book). record_at b d) same;
  opens = λ q h k. let k' : is_open (open_at (forget w e) q) ≡ true = rw same at k in ap (λ (b : Book). open_at b q) same ∙ forget-open w e f.but f.shaped q h k';
  stays = λ q h k. rw same (forget-is_open w e f.but f.shaped q h k);
  rows = λ q h. rw same (forget-row w e f.shaped q h);
}

-- of a call that returns so
pub done-left : (w : ℕ) (a : Answer) (after before : Book) → accepted a ≡ true → WholeBut w after → Left w after (done w a after before).book
done-left w a after before e = left w after _ (done-accepted w a after before e)

-- ---- an accepted call on an open transaction

-- the transaction number n keeps its place and its number, and its row is then o, where it is not forgotten; every other transaction's row stays, if it is not
pub record Acts (w : ℕ) (b c : Book) (n : ℕ) (o : Open) : Type 0 where
  pub before : Sound w b
  pub after : Whole w c
  pub place : place_of w b n < w
  pub number : o.number ≡ (open_of w b n).number
  pub last : c.last ≡ b.last
  pub districts : c.districts ≡ b.districts
  pub count : c.count ≡ b.count
  pub opens : (q : ℕ) → q < w → is_open (open_at c q) ≡ true → open_at c q ≡ row_with b (place_of w b n) o q
  pub stays : (q : ℕ) → q < w → is_open (open_at b q) ≡ true
      → is_open (open_at c q) ≡ (not (decided (row_with b (place_of w b n) o q)) || needed w c q (open_at b q))
  pub rows : (q : ℕ) → q < w → open_at c q ≡ remembered w c q (row_with b (place_of w b n) o q)

-- a row of the transaction's number is open where its own is, and needed where its own is
same_number : (w : ℕ) (c : Book) (q : ℕ) (o r : Open) → o.number ≡ r.number → (is_open o ≡ is_open r) × (needed w c q o ≡ needed w c q r)
unfolding needed
same_number w c q o r e = (rw e, rw e)

-- the places before it forgets, and after
acts-stays : (w : ℕ) (b e c : Book) (n : ℕ) (o : Open) → Left w e c → o.number ≡ (open_of w b n).number
    → ((q : ℕ) → open_at e q ≡ row_with b (place_of w b n) o q)
    → (q : ℕ) → q < w → is_open (open_at b q) ≡ true → is_open (open_at c q) ≡ (not (decided (row_with b (place_of w b n) o q)) || needed w c q (open_at b q))
unfolding kept
acts-stays w b e c n o f number opens q h k =
    let row : Open = row_with b (place_of w b n) o q in
    let same = same_number w c q row (open_at b q) (row-alike (λ (x : Open). x.number) b (place_of w b n) o number q) in
    let stood : is_open (open_at e q) ≡ true = rw (opens q) (same.0 ∙ k) in
    let gone : is_open (open_at c q) ≡ (not (decided row) || needed w c q row) = rw (opens q) at (f.stays q h stood) in
    gone ∙ ap (λ (y : Bool). not (decided row) || y) same.1

-- an event that changes only records, items and the transaction's row, and then forgetting
pub acts : (w : ℕ) (b e c : Book) (n : ℕ) (o : Open) → Sound w b → place_of w b n < w → o.number ≡ (open_of w b n).number
    → Left w e c → e.last ≡ b.last → e.districts ≡ b.districts → e.count ≡ b.count
    → ((q : ℕ) → open_at e q ≡ row_with b (place_of w b n) o q) → Acts w b c n o
acts w b e c n o s place number f last districts count opens = record {
  before = s;
  after = f.whole;
  place = place;
  number = number;
  last = f.last ∙ last;
  districts = f.districts ∙ districts;
  count = f.count ∙ count;
  opens = λ q h k. f.opens q h k ∙ opens q;
  stays = acts-stays w b e c n o f number opens;
  rows = λ q h. f.rows q h ∙ ap (remembered w c q) (opens q);
}

-- what such a call leaves, where it moves no item to another district
pub acts-leaves : (w : ℕ) (b c : Book) (n : ℕ) (o : Open) (call : Call) → Acts w b c n o → asks_begin call ≡ false
    → ((q : ℕ) → row_with b (place_of w b n) o q ≡ open_after w b call q) → ((i : ℕ) → i < b.count → (item_at c i).district ≡ (item_at b i).district) → Leaves w call b c
acts-leaves w b c n o call act none row belongs = record {
  last = rw none (ap (λ (x : TransactionNumber). x.0) act.last);
  districts = act.districts;
  count = act.count;
  belongs = belongs;
  places = λ q h. act.rows q h ∙ ap (remembered w c q) (row q);
}

module _ (w : ℕ) (b c : Book) (n : ℕ) (o : Open) (act : Acts w b c n o) where
  -- the row at its place has its number
  pub acts-number : (open_of w b n).number.0 ≡ n
  acts-number = (place-named w b n act.place).0

  -- another open transaction has another number
  pub acts-other : (q : ℕ) → q < w → is_open (open_at b q) ≡ true → eqb q (place_of w b n) ≡ false → n ≡ (open_at b q).number.0 → ⊥
  acts-other q h k apart same =
      let p : ℕ = place_of w b n in
      let opened = place-open w b n act.place in
      let differ : q ≡ p → ⊥ = eqb-false q p apart in
      by_cases (ltb q p)
      (λ t. act.before.differ p act.place opened q (ltb-true q p t) (sym same ∙ sym acts-number))
      (λ t. act.before.differ q h k p (omega (arith, ltb-false q p t)) (acts-number ∙ same))
