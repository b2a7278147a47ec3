-- What hearing and giving up do to a polyvalue, and how much room that takes (document 01, Events); and whether two are the same ("in an idle district pending equals held",
-- The book). Each makes sense for any list of pairs.
use Rattle.std.specs.Prelude.{Bool, true, false, not, ◌&&◌, ◌||◌, List, [], ◌∷◌, ◌++◌, map, ℕ, ◌+◌, eqb, ℤ}
use Rattle.conditions.specs.Sets.{digit}
use Rattle.conditions.specs.Conditions.{reduced, selected}
use Rattle.polyvalues.specs.declared.polyvalue.Pair.{Pair}
use Rattle.polyvalues.specs.Values.{equal}
use Rattle.polyvalues.specs.Pairs.{pair, assignments}
use Rattle.polyvalues.specs.Simplify.{simplified}

-- each pair with its condition changed
abbrev pub changed : (ℕ → ℕ) → List Pair → List Pair
changed f ps = map (λ p. pair p.value (f (assignments p))) ps

-- "its value under an assignment is the old one with that place set to the outcome": the place i, the outcome b
unfoldable pub reduce : ℕ → ℕ → Bool → List Pair → List Pair
reduce w i b ps = simplified w (changed (λ c. reduced w c i b) ps)

-- "each item becomes its pending value where the transaction completes and its held value where it aborts": done and gone, of the transaction at place i
unfoldable pub select : ℕ → ℕ → List Pair → List Pair → List Pair
select w i done gone = simplified w (changed (λ c. selected w i c 0) done ++ changed (λ c. selected w i 0 c) gone)

-- v is one of the values of a list
abbrev pub occurs : ℤ → List Pair → Bool
occurs v [] = false
occurs v (p ∷ ps) = equal v p.value || occurs v ps

-- how many different values a list has
unfoldable pub different : List Pair → ℕ
different [] = 0
different (p ∷ ps) = digit (not (occurs p.value ps)) + different ps

-- how many different values two lists have together
unfoldable pub together : List Pair → List Pair → ℕ
together ps qs = different (ps ++ qs)

-- ---- equal rows

-- two lists are the same, row by row, by the test f of two rows
abbrev pub same_rows : {A : Type 0} → (A → A → Bool) → List A → List A → Bool
same_rows f [] [] = true
same_rows f [] (y ∷ ys) = false
same_rows f (x ∷ xs) [] = false
same_rows f (x ∷ xs) (y ∷ ys) = f x y && same_rows f xs ys

-- two pairs are the same
abbrev pub same_pair : Pair → Pair → Bool
same_pair p q = equal p.value q.value && eqb (assignments p) (assignments q)

-- two lists are the same pairs
abbrev pub same : List Pair → List Pair → Bool
same = same_rows same_pair
