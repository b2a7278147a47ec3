-- "A polyvalue is 1 to 8 pairs of value and condition, values strictly rising, no condition empty, each assignment in exactly one condition." (document 01, The book)
use Rattle.std.specs.Prelude.{◌≡◌, Bool, true, not, ◌&&◌, cond, List, [], ◌∷◌, ◌++◌, map, Option, Some, None, Result, Ok, Err, ℕ, ◌-◌, ◌^◌, ◌≤◌, ◌<◌, eqb, leb, ltb, ℤ, length, take, drop, replicate}
use Rattle.conditions.specs.Below.{all}
use Rattle.conditions.specs.declared.condition.Condition.{Condition}
use Rattle.conditions.specs.Conditions.{empty}
use Rattle.polyvalues.specs.declared.polyvalue.Pair.{Pair}
use Rattle.polyvalues.specs.declared.polyvalue.Polyvalue.{Polyvalue}
use Rattle.polyvalues.specs.declared.polyvalue.NinthValue.{NinthValue}
use Rattle.polyvalues.specs.Values.{in_range, below}
use Rattle.polyvalues.specs.Pairs.{no_pair, blank, assignments, hits}

-- each of a list passes a test
abbrev pub each : {A : Type 0} → (A → Bool) → List A → Bool
each f [] = true
each f (x ∷ xs) = f x && each f xs

-- each value is above the one before it, and the first is above v
abbrev pub rises_from : ℤ → List Pair → Bool
rises_from v [] = true
rises_from v (p ∷ ps) = below v p.value && rises_from p.value ps

-- "values strictly rising"
abbrev pub rises : List Pair → Bool
rises [] = true
rises (p ∷ ps) = rises_from p.value ps

-- "A condition is a set of assignments": of w places
abbrev pub of_places : ℕ → Pair → Bool
of_places w p = ltb (assignments p) (2 ^ 2 ^ w)

-- and "no condition empty"
abbrev pub proper : ℕ → Pair → Bool
proper w p = of_places w p && not (empty w (assignments p))

-- "equal values joined, no empty condition" (demand 2)
pub record Simple (w : ℕ) (ps : List Pair) : Type 0 where
  pub rising : rises ps ≡ true
  pub conditions : each (proper w) ps ≡ true

-- "conditions complete and disjoint" (demand 2): each assignment is in exactly one
pub record Complete (w : ℕ) (ps : List Pair) : Type 0 where
  pub simple : Simple w ps
  pub once : (a : ℕ) → a < 2 ^ w → hits ps a ≡ 1

-- how many pairs a polyvalue has room for
abbrev pub most_pairs : ℕ
most_pairs = 8

-- the pairs of a polyvalue of w places
pub record WellFormed (w : ℕ) (ps : List Pair) : Type 0 where
  pub complete : Complete w ps
  pub some : 1 ≤ length ps
  pub few : length ps ≤ most_pairs
  pub values : each (λ p. in_range p.value) ps ≡ true

-- the same as a test
unfoldable pub well_formed : ℕ → List Pair → Bool
well_formed w ps =
    rises ps && each (proper w) ps && all (2 ^ w) (λ a. eqb (hits ps a) 1)
    && leb 1 (length ps) && leb (length ps) most_pairs && each (λ p. in_range p.value) ps

-- ---- as the code keeps it: any count and any rows may be handed in

-- values and their conditions, row by row, as far as both go
abbrev pub paired : List ℤ → List Condition → List Pair
paired [] cs = []
paired (v ∷ vs) [] = []
paired (v ∷ vs) (c ∷ cs) = record { value = v; condition = c } ∷ paired vs cs

-- a polyvalue's rows, those past the count too
abbrev pub rows_of : Polyvalue → List Pair
rows_of q = paired q.values q.conditions

-- q has all its rows, as every polyvalue that code holds
pub record AllRows (q : Polyvalue) : Type 0 where
  pub values : length q.values ≡ most_pairs
  pub conditions : length q.conditions ≡ most_pairs

-- the pairs that count
unfoldable pub in_use : Polyvalue → List Pair
in_use q = take q.count (rows_of q)

-- "rows past the counts .. hold zeros"
unfoldable pub tidy : Polyvalue → Bool
tidy q = each blank (drop q.count (rows_of q))

-- the count is one that there is room for, and what counts is well formed
unfoldable pub sound : ℕ → Polyvalue → Bool
sound w q = leb q.count most_pairs && (tidy q && well_formed w (in_use q))

-- these pairs, and rows of zeros past them
abbrev pub padded : List Pair → List Pair
padded ps = ps ++ replicate (most_pairs - length ps) no_pair

-- the polyvalue of these pairs, if there is room for them
unfoldable pub packed : List Pair → Polyvalue
packed ps = record { count = length ps; values = map (λ p. p.value) (padded ps); conditions = map (λ p. p.condition) (padded ps) }

-- the same, where there may be too little room
unfoldable pub fitting : List Pair → Option Polyvalue
fitting ps = cond (leb (length ps) most_pairs) (Some (packed ps)) None

-- as the code answers then: these pairs, or the polyvalue q as it was
unfoldable pub fitted : Polyvalue → List Pair → Result Polyvalue NinthValue
fitted q ps = cond (leb (length ps) most_pairs) (Ok (packed ps)) (Err (record { 0 = q }))
