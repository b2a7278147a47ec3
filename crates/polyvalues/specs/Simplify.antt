-- "Equal values join into one pair with the union of conditions; empty conditions go (paper 3.1)." (document 01, Events)
use Rattle.std.specs.Prelude.{◌&&◌, cond, List, [], ◌∷◌, ℕ, zero, suc, ◌^◌, eqb, ℤ}
use Rattle.conditions.specs.Sets.{member, set_of}
use Rattle.conditions.specs.Conditions.{full, union, empty}
use Rattle.polyvalues.specs.declared.polyvalue.Pair.{Pair}
use Rattle.polyvalues.specs.Values.{below, equal}
use Rattle.polyvalues.specs.Pairs.{pair, assignments}

-- the value v under the condition c, at its place among values that rise; an equal value takes the union
unfoldable pub insert : ℕ → ℤ → ℕ → List Pair → List Pair
insert w v c [] = pair v c ∷ []
insert w v c (p ∷ ps) =
    cond (below v p.value) (pair v c ∷ p ∷ ps)
    (cond (equal v p.value) (pair p.value (union w (assignments p) c) ∷ ps) (p ∷ insert w v c ps))

-- v under c joined into the pairs ps: an empty condition adds nothing
unfoldable pub join : ℕ → ℤ → ℕ → List Pair → List Pair
join w v c ps = cond (empty w c) ps (insert w v c ps)

-- the pairs of a list joined, from the first on, into those at hand
unfoldable pub simplified_from : ℕ → List Pair → List Pair → List Pair
simplified_from w joined [] = joined
simplified_from w joined (p ∷ ps) = simplified_from w (join w p.value (assignments p) joined) ps

-- a list of pairs simplified
unfoldable pub simplified : ℕ → List Pair → List Pair
simplified w ps = simplified_from w [] ps

-- ---- the pairs of a table that gives a value for each assignment

-- the value of each assignment below k that is in the set s, under this assignment alone, joined one after the other
unfoldable pub table_below : ℕ → (ℕ → ℤ) → ℕ → ℕ → List Pair
table_below w f s zero = []
table_below w f s (suc k) = join w (f k) (set_of (2 ^ w) (λ a. eqb a k && member s a)) (table_below w f s k)

-- the pairs of the values that f gives in the set s of assignments
unfoldable pub canon_over : ℕ → (ℕ → ℤ) → ℕ → List Pair
canon_over w f s = table_below w f s (2 ^ w)

-- the pairs of the values that f gives: "all alternatives worked out"
unfoldable pub canon : ℕ → (ℕ → ℤ) → List Pair
canon w f = canon_over w f (full w)
