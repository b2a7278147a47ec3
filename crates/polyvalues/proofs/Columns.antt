-- The values and the conditions of the rows in use, each in its array, and what is asked of them.
use mathlib.Core.Path.{◌≡◌, refl, ap, ap₂, sym, ◌∙◌}
use mathlib.Core.Bool.{Bool, true, false, not, cond, ◌||◌}
use mathlib.Core.List.{List, [], ◌∷◌, map}
use Prim.Native.Nat.{ℕ, zero, suc, ◌+◌, ◌<◌}
use native.Mathlib.Numerals.{one-add}
use lib.Dec.{ltb}
use native.Mathlib.Omega.{arith}
use lib.IntN.{ℤ, pos}
use lib.ListN.{length, get_or, take, drop, length-map}
use Rattle.std.proofs.lemmas.List.{get_or-take, get_or_past}
use borrow.Author.Tests.{ltb-true, ltb-false}
use Rattle.std.proofs.lemmas.Option.{none-some, same_Some}
use Rattle.std.proofs.Common.{Some, None}
use Rattle.std.specs.List.{list_any, position_or_len}
use Rattle.conditions.specs.declared.condition.Condition.{Condition}
use Rattle.conditions.specs.Conditions.{number, of_number, depends_on}
use Rattle.conditions.specs.Sets.{member}
use Rattle.conditions.proofs.Laws.Below.{by_cases}
use Rattle.polyvalues.specs.declared.polyvalue.Pair.{Pair}
use Rattle.polyvalues.specs.declared.polyvalue.Polyvalue.{Polyvalue}
use Rattle.polyvalues.specs.Values.{equal}
use Rattle.polyvalues.specs.Pairs.{no_pair, applies, applying, depends}
use Rattle.polyvalues.specs.Polyvalues.{AllRows, paired, rows_of, in_use}
use Rattle.polyvalues.specs.Operations.{occurs}
use Rattle.polyvalues.proofs.Laws.Paired.{paired_at}

values_of : (n : ℕ) (vs : List ℤ) (cs : List Condition) → length vs ≡ length cs → take (length (take n (paired vs cs))) vs ≡ map (λ p. p.value) (take n (paired vs cs))
values_of zero vs cs e = refl
values_of (suc n) [] cs e = refl
values_of (suc n) (v ∷ vs) [] e = absurd (omega arith)
values_of (suc n) (v ∷ vs) (c ∷ cs) e = ap (λ (l : List ℤ). v ∷ l) (values_of n vs cs (omega arith))

conditions_of : (n : ℕ) (vs : List ℤ) (cs : List Condition) → length vs ≡ length cs → take (length (take n (paired vs cs))) cs ≡ map (λ p. p.condition) (take n (paired vs cs))
conditions_of zero vs cs e = refl
conditions_of (suc n) [] [] e = refl
conditions_of (suc n) [] (c ∷ cs) e = absurd (omega arith)
conditions_of (suc n) (v ∷ vs) [] e = absurd (omega arith)
conditions_of (suc n) (v ∷ vs) (c ∷ cs) e = ap (λ (l : List Condition). c ∷ l) (conditions_of n vs cs (omega arith))

module _ {q : Polyvalue} (all : AllRows q) {n : ℕ} (used : n ≡ length (in_use q)) where
  pub values-in_use : take n q.values ≡ map (λ p. p.value) (in_use q)
  unfolding in_use
  values-in_use = ap (λ (k : ℕ). take k q.values) used ∙ values_of q.count q.values q.conditions (all.values ∙ sym all.conditions)

  pub conditions-in_use : take n q.conditions ≡ map (λ p. p.condition) (in_use q)
  unfolding in_use
  conditions-in_use = ap (λ (k : ℕ). take k q.conditions) used ∙ conditions_of q.count q.values q.conditions (all.values ∙ sym all.conditions)

  pub conditions-long : length (take n q.conditions) ≡ length (in_use q)
  conditions-long = ap length conditions-in_use ∙ length-map (in_use q) (λ p. p.condition)

  -- that of row i
  pub condition_at : (i : ℕ) → i < length (in_use q) → get_or (take n q.conditions) i (of_number 0) ≡ (get_or (rows_of q) i no_pair).condition
  condition_at i h =
      get_or-take n q.conditions i (of_number 0) (omega arith) ∙ ap (λ (p : Pair). p.condition) (sym (paired_at q.values q.conditions i (all.values ∙ sym all.conditions)))

-- one of the conditions depends on the place
pub any-depends : (w i : ℕ) (ps : List Pair) → list_any (λ c. depends_on w (number c) i) (map (λ p. p.condition) ps) ≡ depends w ps i
unfolding depends
any-depends w i [] = refl
any-depends w i (p ∷ ps) = ap (λ (b : Bool). depends_on w (number p.condition) i || b) (any-depends w i ps)

-- two tests that agree on each value agree on some of them
pub any-within : (p r : ℤ → Bool) (k n : ℕ) (vs : List ℤ) → ((i : ℕ) → p (get_or vs i (pos 0)) ≡ r (get_or vs i (pos 0))) → list_any p (drop k (take n vs)) ≡ list_any r (drop k (take n vs))
any-within p r zero zero vs e = refl
any-within p r (suc k) zero vs e = refl
any-within p r zero (suc n) [] e = refl
any-within p r (suc k) (suc n) [] e = refl
any-within p r zero (suc n) (v ∷ vs) e = ap₂ ◌||◌ (e 0) (any-within p r zero n vs (λ i. e (suc i)))
any-within p r (suc k) (suc n) (v ∷ vs) e = any-within p r k n vs (λ i. e (suc i))

-- one of the values is v
pub any-occurs : (v : ℤ) (ps : List Pair) → list_any (equal v) (map (λ p. p.value) ps) ≡ occurs v ps
any-occurs v [] = refl
any-occurs v (p ∷ ps) = ap (λ (b : Bool). equal v p.value || b) (any-occurs v ps)

-- the first condition that has the assignment is that of the pair that applies
module _ (a : ℕ) where
  abbrev pub applies_at : Condition → Bool
  applies_at c = member (number c) a

  abbrev pub first_of : List Pair → ℕ
  first_of ps = position_or_len applies_at (map (λ p. p.condition) ps)

  first-applying : (ps : List Pair) → get_or ps (first_of ps) no_pair ≡ applying ps a
  first-applying [] = refl
  first-applying (p ∷ ps) = at_head (applies p a) (first_of ps) (first-applying ps)
    where
      at_head : (b : Bool) (k : ℕ) {r : Pair} → get_or ps k no_pair ≡ r → get_or (p ∷ ps) (cond (not b) (1 + k) 0) no_pair ≡ cond b p r
      at_head true k e = refl
      at_head false k e = rw (one-add k) e

  pub applying-some : (ps : List Pair) {i : ℕ} → cond (ltb (first_of ps) (length (map (λ p. p.condition) ps))) (Some (first_of ps)) None ≡ Some i
      → (i < length ps) × (get_or ps i no_pair ≡ applying ps a)
  applying-some ps {i} e =
      by_cases (ltb (first_of ps) (length (map (λ p. p.condition) ps)))
      (λ t.
      let is : first_of ps ≡ i = same_Some (first_of ps) i (rw t at e) in
      (omega (arith, ltb-true _ _ t, length-map ps (λ p. p.condition)), ap (λ (k : ℕ). get_or ps k no_pair) (sym is) ∙ first-applying ps))
      (λ t. absurd (none-some i (rw t at e)))

  pub applying-none : (ps : List Pair) → cond (ltb (first_of ps) (length (map (λ p. p.condition) ps))) (Some (first_of ps)) None ≡ None → no_pair ≡ applying ps a
  applying-none ps e =
      by_cases (ltb (first_of ps) (length (map (λ p. p.condition) ps)))
      (λ t. absurd (none-some (first_of ps) (sym (rw t at e))))
      (λ t. sym (get_or_past ps (first_of ps) no_pair (omega (arith, ltb-false _ _ t, length-map ps (λ p. p.condition)))) ∙ first-applying ps)
