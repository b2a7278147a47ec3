-- Where every transaction is kept there is nothing to forget. A sound book is such: so show, which changes nothing, needs no forgetting at its end.
use mathlib.Core.Path.{◌≡◌, ap}
use mathlib.Core.Bool.{true}
use Prim.Native.Nat.{ℕ, ◌≤◌, ◌<◌}
use native.Mathlib.Omega.{arith}
use lib.Dec.{eqb}
use borrow.Author.Tests.{eqb-false, ne_eqb}
use Rattle.conditions.proofs.Laws.Below.{by_cases}
use Rattle.book.specs.declared.Open.{Open}
use Rattle.book.specs.declared.Book.{Book}
use Rattle.book.specs.Book.{no_open, open_at, is_open, with_open}
use Rattle.book.specs.Forget.{needed, kept, remembered, forget}
use Rattle.book.specs.Sound.{Sound}
use Rattle.book.proofs.Laws.Rows.{rows_same}

module _ (w : ℕ) (b : Book) (q : ℕ) (o : Open) where
  -- what is decided is kept exactly where it is needed
  pub kept-needed : kept w b q o ≡ true → 1 ≤ o.decision → needed w b q o ≡ true
  unfolding kept
  kept-needed e h = rw (ne_eqb o.decision 0 (λ z. omega arith)) at e

  pub needed-kept : (1 ≤ o.decision → needed w b q o ≡ true) → kept w b q o ≡ true
  unfolding kept
  needed-kept n = by_cases (eqb o.decision 0) (λ e. rw e) (λ e. rw (e, n (omega (arith, eqb-false o.decision 0 e))))

  pub remembered-kept : kept w b q o ≡ true → remembered w b q o ≡ o
  unfolding remembered
  remembered-kept e = rw e

-- where each is kept, forgetting changes nothing
pub forget-none : (w : ℕ) (b : Book) → ((q : ℕ) → q < w → kept w b q (open_at b q) ≡ true) → forget w b ≡ b
unfolding forget
forget-none w b k = ap (with_open b) (rows_same (remembered w b) no_open w b.«open» (λ q l. remembered-kept w b q (open_at b q) (k q l)))

module _ (w : ℕ) (b : Book) (s : Sound w b) where
  -- a decided transaction of a sound book is open
  pub decided-open : (q : ℕ) → q < w → 1 ≤ (open_at b q).decision → is_open (open_at b q) ≡ true
  decided-open q l h =
      by_cases (is_open (open_at b q))
      (λ e. e)
      (λ e. let none : (open_at b q).decision ≡ 0 = ap (λ (o : Open). o.decision) (s.free q l e) in absurd (omega arith))

  pub sound-kept : (q : ℕ) → q < w → kept w b q (open_at b q) ≡ true
  sound-kept q l = needed-kept w b q (open_at b q) (λ h. s.decided_needed q l (decided-open q l h) h)

  pub forget-sound : forget w b ≡ b
  forget-sound = forget-none w b sound-kept
