-- Where a value stands among the rows of a polyvalue, and rows that move down for a new one: what the code's loops do, one by one.
use Rattle.std.specs.Prelude.{◌≡◌, Bool, true, false, ◌&&◌, List, [], ◌∷◌, ◌++◌, ℕ, zero, suc, ◌-◌, ◌≤◌, ◌<◌, ltb, ℤ, get_or, take, drop}
use Rattle.polyvalues.specs.declared.polyvalue.Pair.{Pair}
use Rattle.polyvalues.specs.declared.polyvalue.Polyvalue.{Polyvalue}
use Rattle.polyvalues.specs.Values.{below, equal}
use Rattle.polyvalues.specs.Pairs.{no_pair}
use Rattle.polyvalues.specs.Polyvalues.{rows_of}

-- the value of row k
abbrev pub value_at : Polyvalue → ℕ → ℤ
value_at q k = (get_or (rows_of q) k no_pair).value

-- k is the first row whose value is not below v
pub record PlaceOf (q : Polyvalue) (v : ℤ) (k : ℕ) : Type 0 where
  pub within : k ≤ q.count
  pub before : (j : ℕ) → j < k → below (value_at q j) v ≡ true
  pub stops : k < q.count → below (value_at q k) v ≡ false

-- row k is in use and has the value v
abbrev pub has_at : Polyvalue → ℕ → ℤ → Bool
has_at q k v = ltb k q.count && equal (value_at q k) v

-- a row put before n rows, the last of which it drives out
abbrev pub carried : ℕ → Pair → List Pair → List Pair
carried zero p ps = ps
carried (suc n) p [] = []
carried (suc n) p (q ∷ ps) = p ∷ carried n q ps

-- the rows from k to n moved down by one, with a new one at k
abbrev pub moved : ℕ → ℕ → Pair → List Pair → List Pair
moved k n p ps = take k ps ++ carried (suc n - k) p (drop k ps)
