-- The steps of a program by their number: step j stands in the bytes from 4 j on.
use mathlib.Core.Path.{◌≡◌, refl, sym, ◌∙◌, ap}
use mathlib.Core.List.{List, [], ◌∷◌}
use Prim.Native.Nat.{ℕ, zero, suc, ◌+◌, ◌*◌, ◌/◌, ◌<◌}
use native.Mathlib.Omega.{arith}
use lib.ListN.{length, get_or}
use Rattle.polyvalues.specs.Values.{of_bytes}
use Rattle.book.specs.declared.Step.{Step}
use Rattle.book.specs.Programs.{steps}
use Rattle.book.specs.States.{no_step}

-- the step that stands in the bytes from one on
abbrev pub step_at : List ℕ → ℕ → Step
step_at bytes i = record { kind = get_or bytes i 0; item = get_or bytes (1 + i) 0; operand = of_bytes (get_or bytes (2 + i) 0) (get_or bytes (3 + i) 0) }

pub length-steps : (bytes : List ℕ) → length (steps bytes) ≡ length bytes / 4
unfolding steps
length-steps [] = refl
length-steps (a ∷ []) = refl
length-steps (a ∷ b ∷ []) = refl
length-steps (a ∷ b ∷ c ∷ []) = refl
length-steps (a ∷ b ∷ c ∷ d ∷ more) = let e = length-steps more in omega arith

further : (a b c d : ℕ) (more : List ℕ) (n : ℕ) (i : ℕ) → n ≡ 4 + i → get_or (a ∷ b ∷ c ∷ d ∷ more) n 0 ≡ get_or more i 0
further a b c d more n i e = let f : n ≡ suc (suc (suc (suc i))) = omega arith in ap (λ (m : ℕ). get_or (a ∷ b ∷ c ∷ d ∷ more) m 0) f

step-further : (a b c d : ℕ) (more : List ℕ) (j : ℕ) → step_at more (4 * j) ≡ step_at (a ∷ b ∷ c ∷ d ∷ more) (4 * suc j)
step-further a b c d more j =
    let k = further a b c d more (4 * suc j) (4 * j) (omega arith) in
    let i = further a b c d more (1 + 4 * suc j) (1 + 4 * j) (omega arith) in
    let h = further a b c d more (2 + 4 * suc j) (2 + 4 * j) (omega arith) in
    let l = further a b c d more (3 + 4 * suc j) (3 + 4 * j) (omega arith) in
    sym (λ m. record { kind = k m; item = i m; operand = of_bytes (h m) (l m) })

pub get_or-steps : (bytes : List ℕ) (j : ℕ) → j < length (steps bytes) → get_or (steps bytes) j no_step ≡ step_at bytes (4 * j)
unfolding steps
get_or-steps [] j h = absurd (omega arith)
get_or-steps (a ∷ []) j h = absurd (omega arith)
get_or-steps (a ∷ b ∷ []) j h = absurd (omega arith)
get_or-steps (a ∷ b ∷ c ∷ []) j h = absurd (omega arith)
get_or-steps (a ∷ b ∷ c ∷ d ∷ more) zero h = refl
get_or-steps (a ∷ b ∷ c ∷ d ∷ more) (suc j) h = get_or-steps more j (omega arith) ∙ step-further a b c d more j
