-- A list of pairs as the relation of the assignments and the values that they have. Simple lists with the same relation are the same pairs.
use mathlib.Core.Path.{◌≡◌, refl, sym, ap, ap₂, ◌∙◌}
use mathlib.Core.Bool.{Bool, true, false, not, ◌&&◌, ◌||◌, true≢false, false≢true, or-true, or-false, and-true, and-false, not-and_self}
use mathlib.Core.List.{List, [], ◌∷◌}
use Prim.Native.Nat.{ℕ, ◌^◌, ◌<◌}
use native.Mathlib.Omega.{arith}
use lib.IntN.{ℤ}
use borrow.Author.Tests.{ltb-true}
use Rattle.conditions.specs.Conditions.{empty}
use Rattle.conditions.proofs.Laws.Below.{and_left, and_right, by_cases}
use Rattle.conditions.proofs.Laws.Sets.{same-members}
use Rattle.conditions.proofs.Laws.Conditions.{none-empty}
use Rattle.polyvalues.specs.declared.polyvalue.Pair.{Pair}
use Rattle.polyvalues.specs.Values.{below, equal}
use Rattle.polyvalues.specs.Pairs.{pair, assignments, applies, at, hits}
use Rattle.polyvalues.specs.Polyvalues.{each, rises_from, rises, of_places, proper, Simple}
use Rattle.polyvalues.specs.Operations.{occurs}
use Rattle.polyvalues.proofs.Laws.Values.{equal-refl, equal-true, not_equal, below-not, below-trans, below-else}

-- some pair has the value u and applies under a
abbrev pub holds : List Pair → ℕ → ℤ → Bool
holds [] a u = false
holds (p ∷ ps) a u = (equal p.value u && applies p a) || holds ps a u

-- a value that holds occurs
pub occurs-holds : (ps : List Pair) (a : ℕ) (u : ℤ) → holds ps a u ≡ true → occurs u ps ≡ true
occurs-holds [] a u e = e
occurs-holds (p ∷ ps) a u e =
    by_cases (equal p.value u)
    (λ t. rw (equal-true p.value u t, equal-refl u))
    (λ t. rw (occurs-holds ps a u (rw t at e)) (or-true (equal u p.value)))

-- ---- in a list that rises

-- what is not above v is none of the values above v
pub above-occurs : (ps : List Pair) (v u : ℤ) → rises_from v ps ≡ true → below v u ≡ false → occurs u ps ≡ false
above-occurs [] v u r e = refl
above-occurs (p ∷ ps) v u r e =
    let up : below v p.value ≡ true = and_left _ _ r in
    ap₂ ◌||◌ (not_equal u p.value (λ q. true≢false (sym up ∙ ap (below v) (sym q) ∙ e)))
    (above-occurs ps p.value u (and_right (below v p.value) _ r)
    (by_cases (below p.value u) (λ o. absurd (true≢false (sym (below-trans v p.value u up o) ∙ e))) (λ o. o)))

-- so it does not hold
above_holds : (ps : List Pair) (v u : ℤ) (a : ℕ) → rises_from v ps ≡ true → below v u ≡ false → holds ps a u ≡ false
above_holds ps v u a r e = by_cases (holds ps a u) (λ t. absurd (true≢false (sym (occurs-holds ps a u t) ∙ above-occurs ps v u r e))) (λ t. t)

module _ (p : Pair) (ps : List Pair) (rising : rises_from p.value ps ≡ true) (a : ℕ) where
  pub head-holds : holds (p ∷ ps) a p.value ≡ applies p a
  head-holds = rw (equal-refl p.value, above_holds ps p.value p.value a rising (below-not p.value)) (or-false (applies p a))

  pub tail-holds : (u : ℤ) → holds ps a u ≡ (not (equal p.value u) && holds (p ∷ ps) a u)
  tail-holds u =
      by_cases (equal p.value u)
      (λ e. rw e (above_holds ps p.value u a rising (ap (below p.value) (sym (equal-true _ _ e)) ∙ below-not p.value)))
      (λ e. rw e)

pub rises-tail : (v : ℤ) (ps : List Pair) → rises_from v ps ≡ true → rises ps ≡ true
rises-tail v [] r = refl
rises-tail v (p ∷ ps) r = and_right (below v p.value) _ r

simple-tail : {w : ℕ} {p : Pair} {ps : List Pair} → Simple w (p ∷ ps) → Simple w ps
simple-tail {w} {p} {ps} s = record { rising = rises-tail p.value ps s.rising; conditions = and_right (proper w p) _ s.conditions }

simple-head : {w : ℕ} {p : Pair} {ps : List Pair} → Simple w (p ∷ ps) → proper w p ≡ true
simple-head {w} {p} {ps} s = and_left _ (each (proper w) ps) s.conditions

small : {w : ℕ} {p : Pair} {ps : List Pair} → Simple w (p ∷ ps) → assignments p < 2 ^ 2 ^ w
small {w} {p} s = ltb-true _ _ (and_left _ (not (empty w (assignments p))) (simple-head s))

-- ---- the relation settles the pairs

pub same-pair : (x y : Pair) → x.value ≡ y.value → assignments x ≡ assignments y → x ≡ y
same-pair x y v n = λ i. pair (v i) (n i)

-- the lowest value shows in the relation, its condition not being empty
shows : (w : ℕ) (p : Pair) (ps qs : List Pair) → Simple w (p ∷ ps) → rises_from p.value qs ≡ true
    → ((a : ℕ) (u : ℤ) → a < 2 ^ w → holds (p ∷ ps) a u ≡ holds qs a u) → ⊥
shows w p ps qs s above e =
    let void : empty w (assignments p) ≡ true = none-empty w (assignments p)
    (λ a h. sym (head-holds p ps s.rising a) ∙ e a p.value h ∙ above_holds qs p.value p.value a above (below-not p.value)) in
    false≢true (ap not (sym void) ∙ and_right (of_places w p) _ (simple-head s))

pub same-holds : (w : ℕ) (ps qs : List Pair) → Simple w ps → Simple w qs → ((a : ℕ) (u : ℤ) → a < 2 ^ w → holds ps a u ≡ holds qs a u) → ps ≡ qs
same-holds w [] [] s t e = refl
same-holds w [] (q ∷ qs) s t e = absurd (shows w q qs [] t refl (λ a u h. sym (e a u h)))
same-holds w (p ∷ ps) [] s t e = absurd (shows w p ps [] s refl e)
same-holds w (p ∷ ps) (q ∷ qs) s t e =
    by_cases (below p.value q.value)
    (λ l. absurd (shows w p ps (q ∷ qs) s (ap₂ ◌&&◌ l t.rising) e))
    (λ n. by_cases (equal p.value q.value)
    (λ v. let same = equal-true p.value q.value v in
    ap₂ ◌∷◌
    (same-pair p q same (same-members (2 ^ w) _ _ (small s) (small t)
    (λ a h. sym (head-holds p ps s.rising a) ∙ e a p.value h ∙ ap (holds (q ∷ qs) a) same ∙ head-holds q qs t.rising a)))
    (same-holds w ps qs (simple-tail s) (simple-tail t)
    (λ a u h. tail-holds p ps s.rising a u ∙ ap₂ (λ (x : ℤ) (m : Bool). not (equal x u) && m) same (e a u h) ∙ sym (tail-holds q qs t.rising a u))))
    (λ m. absurd (shows w q qs (p ∷ ps) t (ap₂ ◌&&◌ (below-else p.value q.value n m) s.rising) (λ a u h. sym (e a u h)))))

-- ---- where one pair applies, the relation is the value

hits-none : (ps : List Pair) (a : ℕ) (u : ℤ) → hits ps a ≡ 0 → holds ps a u ≡ false
hits-none [] a u h = refl
hits-none (p ∷ ps) a u h =
    by_cases (applies p a)
    (λ t. absurd (omega (arith, rw t at h)))
    (λ t. rw t (ap (λ (m : Bool). m || holds ps a u) (and-false (equal p.value u)) ∙ hits-none ps a u (omega (arith, rw t at h))))

pub holds_at : (ps : List Pair) (a : ℕ) (u : ℤ) → hits ps a ≡ 1 → holds ps a u ≡ equal (at ps a) u
holds_at [] a u h = absurd (omega arith)
holds_at (p ∷ ps) a u h =
    by_cases (applies p a)
    (λ t. rw (t, hits-none ps a u (omega (arith, rw t at h))) (or-false _ ∙ and-true (equal p.value u)))
    (λ t. rw t (ap (λ (m : Bool). m || holds ps a u) (and-false (equal p.value u)) ∙ holds_at ps a u (omega (arith, rw t at h))))

-- and where the relation is a value, one pair applies
none-hits : (ps : List Pair) (a : ℕ) → rises ps ≡ true → ((u : ℤ) → holds ps a u ≡ false) → hits ps a ≡ 0
none-hits [] a r e = refl
none-hits (p ∷ ps) a r e =
    let rest : hits ps a ≡ 0 = none-hits ps a (rises-tail p.value ps r) (λ u. tail-holds p ps r a u ∙ rw (e u) (and-false (not (equal p.value u)))) in
    rw (sym (head-holds p ps r a) ∙ e p.value) (omega arith)

pub holds-once : (ps : List Pair) (a : ℕ) (v : ℤ) → rises ps ≡ true → ((u : ℤ) → holds ps a u ≡ equal v u) → hits ps a ≡ 1
holds-once [] a v r e = absurd (false≢true (e v ∙ equal-refl v))
holds-once (p ∷ ps) a v r e =
    let head : applies p a ≡ equal v p.value = sym (head-holds p ps r a) ∙ e p.value in
    let rest : (u : ℤ) → holds ps a u ≡ (not (equal p.value u) && equal v u) = λ u. tail-holds p ps r a u ∙ ap (λ (m : Bool). not (equal p.value u) && m) (e u) in
    by_cases (equal v p.value)
    (λ t. let none = none-hits ps a (rises-tail p.value ps r) (λ u. rest u ∙ rw (equal-true v p.value t) (not-and_self (equal p.value u))) in
    rw (head ∙ t, none))
    (λ t. let once = holds-once ps a v (rises-tail p.value ps r) (λ u. rest u ∙ apart (equal p.value u) (equal v u)
    (λ x y. false≢true (sym t ∙ rw (equal-true p.value u x) y))) in
    rw (head ∙ t, once))
  where
    apart : (x y : Bool) → (x ≡ true → y ≡ true → ⊥) → (not x && y) ≡ y
    apart true true n = absurd (n refl refl)
    apart true false n = refl
    apart false y n = refl

pub at-holds : (ps : List Pair) (a : ℕ) (v : ℤ) → rises ps ≡ true → ((u : ℤ) → holds ps a u ≡ equal v u) → at ps a ≡ v
at-holds ps a v r e = equal-true (at ps a) v (sym (holds_at ps a v (holds-once ps a v r e)) ∙ e v ∙ equal-refl v)
