-- A guess that keeps to the past with one call more keeps to it without that call; and there is always such a guess.
use mathlib.Core.Path.{◌≡◌, sym, ◌∙◌}
use mathlib.Core.Bool.{Bool, true, false, true≢false}
use mathlib.Core.List.{List, ◌∷◌}
use Prim.Native.Nat.{ℕ}
use Rattle.conditions.proofs.Laws.Below.{by_cases}
use Rattle.book.specs.declared.Book.{Book}
use Rattle.demands.specs.Past.{Said, asks_complete, asks_abort, was_completed, was_aborted, gives_up_early, was_given_up, Guess}
use Rattle.demands.proofs.Ledger.{ever-still, Ledger}

-- where no transaction is completed by it that a district gave up before it was ready
pub guess-before : (past : List Said) (x : Said) (g : ℕ → Bool) → Guess (x ∷ past) g
    → ((n : ℕ) → was_given_up past n ≡ true → was_completed past n ≡ false → was_completed (x ∷ past) n ≡ false) → Guess past g
guess-before past x g s late = record {
  completed = λ n e. s.completed n (ever-still past x (λ before. asks_complete n) e);
  aborted = λ n e. s.aborted n (ever-still past x (λ before. asks_abort n) e);
  given_up = λ n c a e.
      by_cases (was_aborted (x ∷ past) n)
      (λ k. s.aborted n k)
      (λ k. s.given_up n (late n e c) k (ever-still past x (λ before. gives_up_early before n) e));
}

-- the cautious guess: only what was decided complete completes
pub cautious : (w : ℕ) (b : Book) (past : List Said) → Ledger w b past → (g : ℕ → Bool) × Guess past g
cautious w b past l = (was_completed past, record { completed = λ n e. e; aborted = aborts; given_up = λ n c a e. c })
  where
    aborts : (n : ℕ) → was_aborted past n ≡ true → was_completed past n ≡ false
    aborts n e = by_cases (was_completed past n) (λ k. absurd (true≢false (sym e ∙ l.once n k))) (λ k. k)
