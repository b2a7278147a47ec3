-- Inserting by rows, as code does it: row k is the first whose value is not below the new one.
use mathlib.Core.Path.{◌≡◌, refl, sym, ap, ◌∙◌}
use mathlib.Core.Bool.{true}
use mathlib.Core.List.{List, [], ◌∷◌, ◌++◌}
use Prim.Native.Nat.{ℕ, zero, suc, ◌≤◌, ◌<◌}
use native.Mathlib.Omega.{arith}
use lib.IntN.{ℤ}
use lib.ListN.{length, get_or, take, drop, set}
use Rattle.conditions.specs.Conditions.{union}
use Rattle.polyvalues.specs.declared.polyvalue.Pair.{Pair}
use Rattle.polyvalues.specs.Values.{below}
use Rattle.polyvalues.specs.Pairs.{pair, assignments, no_pair}
use Rattle.polyvalues.specs.Simplify.{insert}
use Rattle.polyvalues.proofs.Laws.Values.{equal-refl, not_equal, below-not, below_apart, below-back}

module _ (w : ℕ) (v : ℤ) (c : ℕ) where
  skip : (p : Pair) (ps : List Pair) → below p.value v ≡ true → insert w v c (p ∷ ps) ≡ p ∷ insert w v c ps
  unfolding insert
  skip p ps l = rw (below-back p.value v l, not_equal v p.value (λ q. below_apart p.value v l (sym q)))

  -- a new value: the rows from k on move down by one
  pub insert-new : (ps : List Pair) (k : ℕ) → k ≤ length ps → ((j : ℕ) → j < k → below (get_or ps j no_pair).value v ≡ true)
      → (k < length ps → below v (get_or ps k no_pair).value ≡ true) → insert w v c ps ≡ take k ps ++ pair v c ∷ drop k ps
  unfolding insert
  insert-new [] zero h before found = refl
  insert-new [] (suc k) h before found = absurd (omega arith)
  insert-new (p ∷ ps) zero h before found = rw (found (omega arith))
  insert-new (p ∷ ps) (suc k) h before found =
      skip p ps (before 0 (omega arith))
      ∙ ap (λ r. p ∷ r) (insert-new ps k (omega arith) (λ j l. before (suc j) (omega arith)) (λ l. found (omega arith)))

  -- a value that row k has: its condition takes the union
  pub insert-same : (ps : List Pair) (k : ℕ) → k < length ps → ((j : ℕ) → j < k → below (get_or ps j no_pair).value v ≡ true)
      → (get_or ps k no_pair).value ≡ v → insert w v c ps ≡ set ps k (pair v (union w (assignments (get_or ps k no_pair)) c))
  unfolding insert
  insert-same [] k h before found = absurd (omega arith)
  insert-same (p ∷ ps) zero h before found = rw (found, below-not v, equal-refl v)
  insert-same (p ∷ ps) (suc k) h before found =
      skip p ps (before 0 (omega arith))
      ∙ ap (λ r. p ∷ r) (insert-same ps k (omega arith) (λ j l. before (suc j) (omega arith)) found)
