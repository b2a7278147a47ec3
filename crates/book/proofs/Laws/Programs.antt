-- What a program does to touched items depends on touched items alone; it changes no other; and what it gives is a value.
use mathlib.Core.Path.{◌≡◌, refl, ◌∙◌, ap}
use mathlib.Core.Bool.{Bool, true, false, not, ◌&&◌, ◌||◌}
use mathlib.Core.List.{List, [], ◌∷◌}
use Prim.Native.Nat.{ℕ, suc}
use native.Mathlib.Omega.{arith}
use lib.Dec.{eqb, leb}
use lib.IntN.{ℤ}
use borrow.Author.Tests.{eq-eqb, eqb-true, not-false}
use Rattle.conditions.proofs.Laws.Below.{or_left, or_right, or-second, by_cases}
use Rattle.polyvalues.specs.Values.{in_range}
use Rattle.book.specs.declared.Step.{Step}
use Rattle.book.specs.Programs.{is_add, is_set, is_copy, numbered, takes, declines, after, after_all, declined_from, declined, run, names, touches, some_step}
use Rattle.book.specs.Begin.{bad_step}

or-first : (x y : Bool) → x ≡ true → (x || y) ≡ true
or-first x y e = rw e

-- ---- what a step names

names-item : (x : Step) → names x x.item ≡ true
unfolding names
names-item x = or-first _ _ (eq-eqb x.item x.item refl)

names-source : (x : Step) → is_copy x ≡ true → names x (numbered x.operand) ≡ true
unfolding names
names-source x c = or-second (eqb x.item (numbered x.operand)) _ (rw (c, eq-eqb (numbered x.operand) (numbered x.operand) refl))

-- a state stays as it is at an item that a step does not name
pub after-other : (x : Step) (s : ℕ → ℤ) (j : ℕ) → names x j ≡ false → after x s j ≡ s j
unfolding names after
after-other x s j e =
    let other : eqb x.item j ≡ false = or_left (eqb x.item j) _ e in
    by_cases (is_add x)
    (λ a. rw (a, other))
    (λ a. by_cases (is_set x)
    (λ b. rw (a, b, other))
    (λ b. by_cases (is_copy x) (λ c. rw (a, b, c, other)) (λ c. rw (a, b, c))))

-- ---- two states that agree on a set of items

module _ (U : ℕ → Bool) (s t : ℕ → ℤ) (agree : (j : ℕ) → U j ≡ true → s j ≡ t j) (x : Step) (inside : (j : ℕ) → names x j ≡ true → U j ≡ true) where
  at_item : s x.item ≡ t x.item
  at_item = agree x.item (inside x.item (names-item x))

  after-agree : (j : ℕ) → U j ≡ true → after x s j ≡ after x t j
  unfolding after
  after-agree j k =
      by_cases (is_add x)
      (λ a. rw (a, at_item, agree j k))
      (λ a. by_cases (is_set x)
      (λ b. rw (a, b, agree j k))
      (λ b. by_cases (is_copy x)
      (λ c. rw (a, b, c, agree (numbered x.operand) (inside (numbered x.operand) (names-source x c)), agree j k))
      (λ c. rw (a, b, c, agree j k))))

  declines-agree : declines x s ≡ declines x t
  unfolding declines
  declines-agree = rw at_item

-- ---- programs

inside-head : (U : ℕ → Bool) (x : Step) (xs : List Step) → ((j : ℕ) → touches (x ∷ xs) j ≡ true → U j ≡ true) → (j : ℕ) → names x j ≡ true → U j ≡ true
unfolding touches
inside-head U x xs f j e = f j (or-first (names x j) (touches xs j) e)

inside-tail : (U : ℕ → Bool) (x : Step) (xs : List Step) → ((j : ℕ) → touches (x ∷ xs) j ≡ true → U j ≡ true) → (j : ℕ) → touches xs j ≡ true → U j ≡ true
unfolding touches
inside-tail U x xs f j e = f j (or-second (names x j) (touches xs j) e)

after_all-agree : (U : ℕ → Bool) (xs : List Step) (s t : ℕ → ℤ) → ((j : ℕ) → touches xs j ≡ true → U j ≡ true)
    → ((j : ℕ) → U j ≡ true → s j ≡ t j) → (i : ℕ) → U i ≡ true → after_all xs s i ≡ after_all xs t i
unfolding after_all
after_all-agree U [] s t inside agree i k = agree i k
after_all-agree U (x ∷ xs) s t inside agree i k =
    after_all-agree U xs (after x s) (after x t) (inside-tail U x xs inside) (after-agree U s t agree x (inside-head U x xs inside)) i k

declined-agree : (U : ℕ → Bool) (k : ℕ) (xs : List Step) (s t : ℕ → ℤ) → ((j : ℕ) → touches xs j ≡ true → U j ≡ true)
    → ((j : ℕ) → U j ≡ true → s j ≡ t j) → declined_from k xs s ≡ declined_from k xs t
unfolding declined_from
declined-agree U k [] s t inside agree = refl
declined-agree U k (x ∷ xs) s t inside agree =
    rw (
      declines-agree U s t agree x (inside-head U x xs inside),
      declined-agree U (suc k) xs (after x s) (after x t) (inside-tail U x xs inside) (after-agree U s t agree x (inside-head U x xs inside)),
    )

-- two states that agree on the touched items: the same step declines
pub declined-reads : (xs : List Step) (s t : ℕ → ℤ) → ((j : ℕ) → touches xs j ≡ true → s j ≡ t j) → declined xs s ≡ declined xs t
declined-reads xs s t agree = declined-agree (touches xs) 1 xs s t (λ j e. e) agree

-- and the touched items get the same values
pub run-reads : (xs : List Step) (s t : ℕ → ℤ) → ((j : ℕ) → touches xs j ≡ true → s j ≡ t j) → (i : ℕ) → touches xs i ≡ true → run xs s i ≡ run xs t i
unfolding run
run-reads xs s t agree i k =
    by_cases (eqb (declined xs t) 0)
    (λ e. rw (declined-reads xs s t agree, e) (after_all-agree (touches xs) xs s t (λ j e. e) agree i k))
    (λ e. rw (declined-reads xs s t agree, e) (agree i k))

after_all-frame : (xs : List Step) (s : ℕ → ℤ) (i : ℕ) → touches xs i ≡ false → after_all xs s i ≡ s i
unfolding after_all touches
after_all-frame [] s i e = refl
after_all-frame (x ∷ xs) s i e = after_all-frame xs (after x s) i (or_right (names x i) (touches xs i) e) ∙ after-other x s i (or_left (names x i) (touches xs i) e)

-- an item that is not touched is unchanged
pub run-frame : (xs : List Step) (s : ℕ → ℤ) (i : ℕ) → touches xs i ≡ false → run xs s i ≡ s i
unfolding run
run-frame xs s i e = by_cases (eqb (declined xs s) 0) (λ z. rw z (after_all-frame xs s i e)) (λ z. rw z)

-- ---- values

-- where every touched item has a value in range, a step that is good and does not decline leaves it so
after-range : (U : ℕ → Bool) (x : Step) (s : ℕ → ℤ) → ((j : ℕ) → names x j ≡ true → U j ≡ true) → ((j : ℕ) → U j ≡ true → in_range (s j) ≡ true)
    → bad_step x ≡ false → declines x s ≡ false → (j : ℕ) → U j ≡ true → in_range (after x s j) ≡ true
unfolding after declines bad_step
after-range U x s inside range good on j k =
    by_cases (is_add x)
    (λ a.
    let other : eqb x.kind 1 ≡ false = ap (λ (n : ℕ). eqb n 1) (eqb-true x.kind 2 a) in
    rw a (put _ (not-false _ (rw (other, a) at on))))
    (λ a. by_cases (is_set x)
    (λ b.
    let other : eqb x.kind 4 ≡ false = ap (λ (n : ℕ). eqb n 4) (eqb-true x.kind 3 b) in
    rw (a, b) (put _ (not-false _ (rw other at (or_right (not (leb 1 x.kind && leb x.kind 4)) _ good)))))
    (λ b. by_cases (is_copy x)
    (λ c. rw (a, b, c) (put _ (range (numbered x.operand) (inside (numbered x.operand) (names-source x c)))))
    (λ c. rw (a, b, c) (range j k))))
  where
    put : (v : ℤ) → in_range v ≡ true → in_range (takes s x.item v j) ≡ true
    put v e = by_cases (eqb x.item j) (λ m. rw (m, e)) (λ m. rw (m, range j k))

after_all-range : (U : ℕ → Bool) (k : ℕ) (xs : List Step) (s : ℕ → ℤ) → ((j : ℕ) → touches xs j ≡ true → U j ≡ true)
    → ((j : ℕ) → U j ≡ true → in_range (s j) ≡ true) → some_step bad_step xs ≡ false → declined_from (suc k) xs s ≡ 0 → (i : ℕ) → U i ≡ true → in_range (after_all xs s i) ≡ true
unfolding after_all declined_from
after_all-range U k [] s inside range good on i h = range i h
after_all-range U k (x ∷ xs) s inside range good on i h =
    by_cases (declines x s)
    (λ e. let never : suc k ≡ 0 = rw e at on in absurd (omega arith))
    (λ e.
    after_all-range U (suc k) xs (after x s) (inside-tail U x xs inside)
    (after-range U x s (inside-head U x xs inside) range (or_left (bad_step x) _ good) e)
    (or_right (bad_step x) _ good) (rw e at on) i h)

-- a good program gives touched items values, where they had values
pub run-range : (xs : List Step) (s : ℕ → ℤ) → some_step bad_step xs ≡ false → ((j : ℕ) → touches xs j ≡ true → in_range (s j) ≡ true)
    → (i : ℕ) → touches xs i ≡ true → in_range (run xs s i) ≡ true
unfolding run
run-range xs s good range i h =
    by_cases (eqb (declined xs s) 0)
    (λ e. rw e (after_all-range (touches xs) 0 xs s (λ j k. k) range good (eqb-true (declined xs s) 0 e) i h))
    (λ e. rw e (range i h))
