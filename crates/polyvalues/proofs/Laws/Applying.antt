-- The pair that applies under an assignment: it says the value, there and wherever else it applies.
use mathlib.Core.Path.{◌≡◌, refl, sym, ap, ◌∙◌}
use mathlib.Core.Bool.{Bool, true, ◌||◌, ◌&&◌, or-true}
use mathlib.Core.List.{List, [], ◌∷◌}
use Prim.Native.Nat.{ℕ}
use native.Mathlib.Omega.{arith}
use Rattle.conditions.proofs.Laws.Below.{by_cases}
use Rattle.polyvalues.specs.declared.polyvalue.Pair.{Pair}
use Rattle.polyvalues.specs.Values.{equal}
use Rattle.polyvalues.specs.Pairs.{applies, at, applying, hits}
use Rattle.polyvalues.proofs.Laws.Values.{equal-refl, equal-true}
use Rattle.polyvalues.proofs.Laws.Holds.{holds, holds_at}

-- its value is the list's
pub applying-value : (ps : List Pair) (a : ℕ) → (applying ps a).value ≡ at ps a
applying-value [] a = refl
applying-value (p ∷ ps) a = by_cases (applies p a) (λ t. rw t) (λ t. rw t (applying-value ps a))

-- where one applies, it does
pub applying-applies : (ps : List Pair) (a : ℕ) → hits ps a ≡ 1 → applies (applying ps a) a ≡ true
applying-applies [] a h = absurd (omega arith)
applying-applies (p ∷ ps) a h = by_cases (applies p a) (λ t. rw t t) (λ t. rw t (applying-applies ps a (omega (arith, rw t at h))))

-- it is one of the pairs
applying-holds : (ps : List Pair) (a b : ℕ) → hits ps a ≡ 1 → applies (applying ps a) b ≡ true → holds ps b (at ps a) ≡ true
applying-holds [] a b h e = absurd (omega arith)
applying-holds (p ∷ ps) a b h e =
    by_cases (applies p a)
    (λ t. rw t (rw (equal-refl p.value, rw t at e)))
    (λ t. rw t (ap (λ (x : Bool). equal p.value (at ps a) && applies p b || x) (applying-holds ps a b (omega (arith, rw t at h)) (rw t at e)) ∙ or-true (equal p.value (at ps a) && applies p b)))

-- under each assignment of its condition the value is the same
pub applying-same : (ps : List Pair) (a b : ℕ) → hits ps a ≡ 1 → hits ps b ≡ 1 → applies (applying ps a) b ≡ true → at ps b ≡ at ps a
applying-same ps a b h l e = equal-true (at ps b) (at ps a) (sym (holds_at ps b (at ps a) l) ∙ applying-holds ps a b h e)
