-- "1 to 8 steps of 4 bytes: kind, item, operand (16 bits, two's complement, high byte first)." (document 01, What a program means)
-- A state gives each item's value by its number.
use Rattle.std.specs.Prelude.{Bool, false, not, ◌&&◌, ◌||◌, cond, List, [], ◌∷◌, ℕ, suc, eqb, ℤ, pos, negsuc, ◌+ℤ◌}
use Rattle.polyvalues.specs.Values.{in_range, below, of_bytes}
use Rattle.book.specs.declared.Step.{Step}

-- the steps of a program, from the first on; bytes left over make no step
unfoldable pub steps : List ℕ → List Step
steps [] = []
steps (kind ∷ []) = []
steps (kind ∷ item ∷ []) = []
steps (kind ∷ item ∷ high ∷ []) = []
steps (kind ∷ item ∷ high ∷ low ∷ more) = record { kind = kind; item = item; operand = of_bytes high low } ∷ steps more

-- ---- the four kinds

-- 1
abbrev pub is_need : Step → Bool
is_need x = eqb x.kind 1

-- 2
abbrev pub is_add : Step → Bool
is_add x = eqb x.kind 2

-- 3
abbrev pub is_set : Step → Bool
is_set x = eqb x.kind 3

-- 4
abbrev pub is_copy : Step → Bool
is_copy x = eqb x.kind 4

-- "the item numbered by the operand" of a Copy. A negative one numbers no item, and begin answers 2 before anything reads this.
abbrev pub numbered : ℤ → ℕ
numbered (pos n) = n
numbered (negsuc n) = 0

-- the state s with v for item i
abbrev pub takes : (ℕ → ℤ) → ℕ → ℤ → ℕ → ℤ
takes s i v j = cond (eqb i j) v (s j)

-- "Need: decline if the item is below the operand." "Add: .. decline if the sum leaves −9,999 to 9,999."
unfoldable pub declines : Step → (ℕ → ℤ) → Bool
declines x s =
    cond (is_need x) (below (s x.item) x.operand)
    (cond (is_add x) (not (in_range (s x.item +ℤ x.operand))) false)

-- "Add: add the operand", "Set: the item takes the operand.", "Copy: the item takes the value of the item numbered by the operand." Need changes nothing.
unfoldable pub after : Step → (ℕ → ℤ) → ℕ → ℤ
after x s =
    cond (is_add x) (takes s x.item (s x.item +ℤ x.operand))
    (cond (is_set x) (takes s x.item x.operand)
    (cond (is_copy x) (takes s x.item (s (numbered x.operand))) s))

-- ---- a program

-- "Steps see earlier steps' changes.": the state after all of them, where none declines
unfoldable pub after_all : List Step → (ℕ → ℤ) → ℕ → ℤ
after_all [] s = s
after_all (x ∷ xs) s = after_all xs (after x s)

-- the number of the first step that declines, where the first of these has the number k; 0 where none declines
unfoldable pub declined_from : ℕ → List Step → (ℕ → ℤ) → ℕ
declined_from k [] s = 0
declined_from k (x ∷ xs) s = let later : ℕ = declined_from (suc k) xs (after x s) in cond (declines x s) k later

-- the same, from 1 on
abbrev pub declined : List Step → (ℕ → ℤ) → ℕ
declined xs s = declined_from 1 xs s

-- "A program that declines changes nothing at all."
unfoldable pub run : List Step → (ℕ → ℤ) → ℕ → ℤ
run xs s = cond (eqb (declined xs s) 0) (after_all xs s) s

-- a step of it passes a test
abbrev pub some_step : (Step → Bool) → List Step → Bool
some_step f [] = false
some_step f (x ∷ xs) = f x || some_step f xs

-- ---- "Touched items are all those named by any step, even after a step that declines."

-- a step names item i: as its item, or as the one that a Copy takes its value from
unfoldable pub names : Step → ℕ → Bool
names x i = eqb x.item i || (is_copy x && eqb (numbered x.operand) i)

-- a program touches item i
unfoldable pub touches : List Step → ℕ → Bool
touches xs i = some_step (λ x. names x i) xs
