-- Operands as the machine keeps them, and the items that steps name.
use mathlib.Core.Path.{◌≡◌, refl, ap, ap₂}
use mathlib.Core.Bool.{Bool, true, false, not, ◌||◌}
use mathlib.Core.List.{List, [], ◌∷◌}
use Prim.Native.Nat.{ℕ, zero, suc, ◌≤◌, ◌<◌}
use native.Mathlib.Omega.{arith}
use lib.Dec.{ltb}
use lib.IntN.{ℤ, pos, negsuc}
use lib.ListN.{length, get_or}
use lib.Signed.{mag}
use mir.Facts.{to_z-of_z}
use mir.Syntax.{w16}
use mir.Val.{of_z, to_z}
use borrow.Author.Tests.{lt-ltb, ltb-true, not-false}
use Rattle.conditions.proofs.Laws.Below.{or_left, or_right, by_cases}
use Rattle.book.specs.declared.Step.{Step}
use Rattle.book.specs.Programs.{is_copy, some_step}
use Rattle.book.specs.Begin.{in_table, outside}
use Rattle.book.specs.States.{no_step}
use Rattle.book.proofs.Laws.Touched.{item-below}

-- ---- operands

-- a number of 16 bits is what its bits say
pub back : (z : ℤ) → mag z < 32768 → to_z w16 (of_z w16 z) ≡ z
back z h = to_z-of_z {w = w16} (record { sfits = h })

-- ---- items that a step names

in_table-more : (count more : ℕ) (z : ℤ) → count ≤ more → in_table count z ≡ true → in_table more z ≡ true
in_table-more count more (pos n) h e = lt-ltb n more (omega (arith, ltb-true n count e))
in_table-more count more (negsuc n) h e = e

-- what is in a table is in a longer one
module _ (count more : ℕ) (h : count ≤ more) where
  step-inside-more : (x : Step) → outside count x ≡ false → outside more x ≡ false
  unfolding outside
  step-inside-more x e =
      rw (lt-ltb x.item more (omega (arith, item-below count x e))) (by_cases (is_copy x)
      (λ q. rw q (ap not (in_table-more count more x.operand h (not-false _ (rw q at (or_right (not (ltb x.item count)) _ e))))))
      (λ q. rw q))

  pub inside-more : (xs : List Step) → some_step (outside count) xs ≡ false → some_step (outside more) xs ≡ false
  inside-more [] e = refl
  inside-more (x ∷ xs) e = ap₂ ◌||◌ (step-inside-more x (or_left (outside count x) _ e)) (inside-more xs (or_right (outside count x) _ e))

-- ---- a test of each step

pub some-none : (f : Step → Bool) (xs : List Step) (i : ℕ) → some_step f xs ≡ false → i < length xs → f (get_or xs i no_step) ≡ false
some-none f [] i e h = absurd (omega arith)
some-none f (x ∷ xs) zero e h = or_left (f x) _ e
some-none f (x ∷ xs) (suc i) e h = some-none f xs i (or_right (f x) _ e) (omega arith)
