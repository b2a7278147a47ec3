-- "A lent list of pairs can be asked for its value under one assignment." (document 01, The book) What one pair says, and what a list of pairs says.
use Rattle.std.specs.Prelude.{Bool, false, ◌&&◌, ◌||◌, cond, List, [], ◌∷◌, Option, Some, None, ℕ, ◌+◌, ◌^◌, eqb, ltb, ℤ, pos}
use Rattle.conditions.specs.Sets.{digit, member}
use Rattle.conditions.specs.Conditions.{number, of_number, full, depends_on}
use Rattle.polyvalues.specs.declared.polyvalue.Pair.{Pair}
use Rattle.polyvalues.specs.Values.{equal}

-- a value, and the condition that is written c
abbrev pub pair : ℤ → ℕ → Pair
pair v c = record { value = v; condition = of_number c }

-- the row that holds zeros
abbrev pub no_pair : Pair
no_pair = pair (pos 0) 0

-- its condition, written as a number
abbrev pub assignments : Pair → ℕ
assignments p = number p.condition

-- it is the row that holds zeros
abbrev pub blank : Pair → Bool
blank p = equal p.value (pos 0) && eqb (assignments p) 0

-- the assignment a is in its condition
abbrev pub applies : Pair → ℕ → Bool
applies p a = member (assignments p) a

-- the value of the first pair that applies under a, and 0 where none does
abbrev pub at : List Pair → ℕ → ℤ
at [] a = pos 0
at (p ∷ ps) a = cond (applies p a) p.value (at ps a)

-- the first pair that applies under a, and a row of zeros where none does
abbrev pub applying : List Pair → ℕ → Pair
applying [] a = no_pair
applying (p ∷ ps) a = cond (applies p a) p (applying ps a)

-- how many pairs apply under a
abbrev pub hits : List Pair → ℕ → ℕ
hits [] a = 0
hits (p ∷ ps) a = digit (applies p a) + hits ps a

-- "It refuses (2) if the assignment's number is over [the last one's], or unless exactly one pair of the list applies": v, where n pairs apply under a
abbrev pub only : ℕ → ℕ → ℕ → ℤ → Option ℤ
only w a n v = cond (ltb a (2 ^ w) && eqb n 1) (Some v) None

-- "A lent list of pairs can be asked for its value under one assignment."
unfoldable pub asked : ℕ → List Pair → ℕ → Option ℤ
asked w ps a = only w a (hits ps a) (at ps a)

-- "It depends on a place if one of its conditions does."
unfoldable pub depends : ℕ → List Pair → ℕ → Bool
depends w [] i = false
depends w (p ∷ ps) i = depends_on w (assignments p) i || depends w ps i

-- "A certain value is made as one pair that always applies."
unfoldable pub certain : ℕ → ℤ → List Pair
certain w v = pair v (full w) ∷ []
