-- A program whose items are in the table touches items of the table; where begin finds none busy, idle ones.
use mathlib.Core.Path.{◌≡◌, sym, ◌∙◌}
use mathlib.Core.Bool.{true, false, not, ◌&&◌, true≢false, false≢true}
use mathlib.Core.List.{List, [], ◌∷◌}
use Prim.Native.Nat.{ℕ, ◌≤◌, ◌<◌}
use native.Mathlib.Omega.{arith}
use lib.Dec.{eqb, ltb}
use lib.IntN.{ℤ, pos, negsuc}
use borrow.Author.Tests.{eq-eqb, ne_eqb, eqb-true, ltb-true, ltb-false, not-false}
use Rattle.conditions.proofs.Laws.Below.{and_left, and_right, or_left, or_right, by_cases, any_none, any_some}
use Rattle.book.specs.declared.Step.{Step}
use Rattle.book.specs.declared.Book.{Book}
use Rattle.book.specs.Book.{record_at, item_at, record_on, item_on}
use Rattle.book.specs.Programs.{is_copy, numbered, names, touches, some_step}
use Rattle.book.specs.Begin.{in_table, outside, some_busy, touches_district}
use Rattle.book.specs.Sound.{EachItem}

in_table-below : (count : ℕ) (z : ℤ) → in_table count z ≡ true → numbered z < count
in_table-below count (pos n) e = ltb-true n count e
in_table-below count (negsuc n) e = absurd (true≢false (sym e))

module _ (count : ℕ) (x : Step) (inside : outside count x ≡ false) where
  pub item-below : x.item < count
  unfolding outside
  item-below = ltb-true x.item count (not-false _ (or_left (not (ltb x.item count)) _ inside))

  pub source-below : x.kind ≡ 4 → numbered x.operand < count
  unfolding outside
  source-below e =
      in_table-below count x.operand (not-false _ (rw (eq-eqb x.kind 4 e) at (or_right (not (ltb x.item count)) _ inside)))

  pub names-past : (i : ℕ) → count ≤ i → names x i ≡ false
  unfolding names
  names-past i h =
      rw (ne_eqb x.item i (λ e. omega (arith, item-below))) (by_cases (is_copy x)
      (λ e. rw (e, ne_eqb (numbered x.operand) i (λ q. omega (arith, source-below (eqb-true x.kind 4 e)))))
      (λ e. rw e))

  names-below : (i : ℕ) → names x i ≡ true → i < count
  names-below i e =
      by_cases (ltb i count)
      (λ t. ltb-true i count t)
      (λ t. absurd (true≢false (sym e ∙ names-past i (ltb-false i count t))))

pub touched-below : (count : ℕ) (xs : List Step) (i : ℕ) → some_step (outside count) xs ≡ false → touches xs i ≡ true → i < count
unfolding touches
touched-below count [] i e f = absurd (false≢true f)
touched-below count (x ∷ xs) i e f =
    by_cases (names x i)
    (λ a. names-below count x (or_left (outside count x) _ e) i a)
    (λ a. touched-below count xs i (or_right (outside count x) _ e) (rw a at f))

-- ---- where no touched item is on a transaction

pub touched-item-idle : (b : Book) (xs : List Step) → some_busy b xs ≡ false → (i : ℕ) → i < b.count → touches xs i ≡ true → item_on b (item_at b i) ≡ 0
unfolding some_busy
touched-item-idle b xs idles i h k =
    let no : (touches xs i && not (eqb (item_on b (item_at b i)) 0)) ≡ false = any_none b.count (λ i. touches xs i && not (eqb (item_on b (item_at b i)) 0)) idles i h in
    eqb-true (item_on b (item_at b i)) 0 (not-false _ (rw k at no))

-- a touched district is idle, too
pub touched-idle : (b : Book) (xs : List Step) → EachItem b (λ x. x.district < b.districts) → some_busy b xs ≡ false
    → (d : ℕ) → touches_district b xs d ≡ true → (d < b.districts) × (record_on (record_at b d) ≡ 0)
unfolding touches_district item_on
touched-idle b xs belongs idles d k =
    let some = any_some b.count (λ i. touches xs i && eqb (item_at b i).district d) k in
    let i : ℕ = some.0 in
    let its : (item_at b i).district ≡ d = eqb-true (item_at b i).district d (and_right (touches xs i) _ some.2) in
    (rw its at (belongs i some.1), rw its at (touched-item-idle b xs idles i some.1 (and_left (touches xs i) _ some.2)))
