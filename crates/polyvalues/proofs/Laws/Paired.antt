-- Values and conditions in arrays of their own, and the rows that they make.
use mathlib.Core.Path.{◌≡◌, refl, sym, ap, ap₂, ◌∙◌}
use mathlib.Core.List.{List, [], ◌∷◌, map}
use Prim.Native.Nat.{ℕ, zero, suc, ◌-◌, ◌≤◌}
use native.Mathlib.Omega.{arith}
use lib.IntN.{ℤ, pos}
use lib.ListN.{length, get_or, set, replicate, length-append, length-map, length-replicate}
use Rattle.conditions.specs.declared.condition.Condition.{Condition}
use Rattle.conditions.specs.Conditions.{of_number}
use Rattle.polyvalues.specs.declared.polyvalue.Pair.{Pair}
use Rattle.polyvalues.specs.declared.polyvalue.Polyvalue.{Polyvalue}
use Rattle.polyvalues.specs.Pairs.{no_pair}
use Rattle.polyvalues.specs.Polyvalues.{AllRows, most_pairs, paired, padded, rows_of, packed}

-- the values and the conditions of rows make these rows
paired-of : (ps : List Pair) → paired (map (λ p. p.value) ps) (map (λ p. p.condition) ps) ≡ ps
paired-of [] = refl
paired-of (p ∷ ps) = ap (λ (l : List Pair). p ∷ l) (paired-of ps)

pub rows-packed : (ps : List Pair) → rows_of (packed ps) ≡ padded ps
unfolding packed
rows-packed ps = paired-of (padded ps)

-- a row that is set is set in both
pub paired-set : (vs : List ℤ) (cs : List Condition) (i : ℕ) (v : ℤ) (c : Condition)
    → paired (set vs i v) (set cs i c) ≡ set (paired vs cs) i (record { value = v; condition = c })
paired-set [] cs i v c = refl
paired-set (x ∷ vs) [] zero v c = refl
paired-set (x ∷ vs) [] (suc i) v c = refl
paired-set (x ∷ vs) (d ∷ cs) zero v c = refl
paired-set (x ∷ vs) (d ∷ cs) (suc i) v c = ap (λ (l : List Pair). record { value = x; condition = d } ∷ l) (paired-set vs cs i v c)

-- ---- where there are as many conditions as values

pub values-paired : (vs : List ℤ) (cs : List Condition) → length vs ≡ length cs → map (λ p. p.value) (paired vs cs) ≡ vs
values-paired [] cs e = refl
values-paired (v ∷ vs) [] e = absurd (omega arith)
values-paired (v ∷ vs) (c ∷ cs) e = ap (λ (l : List ℤ). v ∷ l) (values-paired vs cs (omega arith))

pub conditions-paired : (vs : List ℤ) (cs : List Condition) → length vs ≡ length cs → map (λ p. p.condition) (paired vs cs) ≡ cs
conditions-paired [] [] e = refl
conditions-paired [] (c ∷ cs) e = absurd (omega arith)
conditions-paired (v ∷ vs) [] e = absurd (omega arith)
conditions-paired (v ∷ vs) (c ∷ cs) e = ap (λ (l : List Condition). c ∷ l) (conditions-paired vs cs (omega arith))

-- what makes values and conditions of these rows makes these rows
pub paired-is : (ps : List Pair) {vs : List ℤ} {cs : List Condition} → vs ≡ map (λ p. p.value) ps → cs ≡ map (λ p. p.condition) ps → paired vs cs ≡ ps
paired-is ps e f = ap₂ paired e f ∙ paired-of ps

pub packed-is : (ps : List Pair) {n : ℕ} {vs : List ℤ} {cs : List Condition} → n ≡ length ps → length vs ≡ length cs → paired vs cs ≡ padded ps
    → ◌≡◌ {A = Polyvalue} (record { count = n; values = vs; conditions = cs }) (packed ps)
unfolding packed
packed-is ps {vs = vs} {cs = cs} e l f =
    let values : vs ≡ map (λ p. p.value) (padded ps) = sym (values-paired vs cs l) ∙ ap (map (λ p. p.value)) f in
    let conditions : cs ≡ map (λ p. p.condition) (padded ps) = sym (conditions-paired vs cs l) ∙ ap (map (λ p. p.condition)) f in
    λ i. record { count = e i; values = values i; conditions = conditions i }

pub paired_at : (vs : List ℤ) (cs : List Condition) (i : ℕ) → length vs ≡ length cs
    → get_or (paired vs cs) i no_pair ≡ record { value = get_or vs i (pos 0); condition = get_or cs i (of_number 0) }
paired_at [] [] i e = refl
paired_at [] (c ∷ cs) i e = absurd (omega arith)
paired_at (v ∷ vs) [] i e = absurd (omega arith)
paired_at (v ∷ vs) (c ∷ cs) zero e = refl
paired_at (v ∷ vs) (c ∷ cs) (suc i) e = paired_at vs cs i (omega arith)

pub rows_long : {q : Polyvalue} → AllRows q → length (rows_of q) ≡ most_pairs
rows_long {q} all = sym (length-map (rows_of q) (λ p. p.value)) ∙ ap length (values-paired q.values q.conditions (all.values ∙ sym all.conditions)) ∙ all.values

pub packed-rows : (ps : List Pair) → length ps ≤ most_pairs → AllRows (packed ps)
unfolding packed
packed-rows ps h =
    let long : length (padded ps) ≡ most_pairs = omega (arith, length-append ps (replicate (most_pairs - length ps) no_pair), length-replicate (most_pairs - length ps) no_pair) in
    record { values = length-map (padded ps) (λ p. p.value) ∙ long; conditions = length-map (padded ps) (λ p. p.condition) ∙ long }
