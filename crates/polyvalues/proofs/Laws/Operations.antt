-- What reducing and selecting give, under each assignment.
use mathlib.Core.Path.{◌≡◌, refl, sym, ap, ap₂, ◌∙◌}
use mathlib.Core.Bool.{Bool, true, false, not, ◌&&◌, ◌||◌, cond, and-false, or-false, or_assoc}
use mathlib.Core.List.{List, [], ◌∷◌, ◌++◌}
use Prim.Native.Nat.{ℕ, ◌^◌, ◌≤◌, ◌<◌}
use native.Mathlib.Omega.{arith}
use lib.IntN.{ℤ}
use lib.ListN.{length, length-map}
use borrow.Author.Tests.{lt-ltb, not-true}
use Rattle.conditions.specs.Sets.{member}
use Rattle.conditions.specs.Places.{with_place}
use Rattle.conditions.specs.Conditions.{reduced, selected}
use Rattle.conditions.proofs.Laws.Below.{and_left, and_right}
use Rattle.conditions.proofs.Laws.Sets.{member-none}
use Rattle.conditions.proofs.Laws.Conditions.{member-reduced, reduced-lt, member-selected, selected-lt, reduced-free, reduced-depends-not, union-depends-not}
use Rattle.conditions.proofs.Laws.Places.{place-lt, member-other}
use Rattle.polyvalues.specs.declared.polyvalue.Pair.{Pair}
use Rattle.polyvalues.specs.Values.{equal}
use Rattle.polyvalues.specs.Pairs.{pair, assignments, at, depends}
use Rattle.polyvalues.specs.Polyvalues.{each, of_places, Simple, Complete}
use Rattle.polyvalues.specs.Simplify.{simplified, canon}
use Rattle.polyvalues.specs.Operations.{changed, reduce, select}
use Rattle.polyvalues.proofs.Laws.Holds.{holds, holds_at}
use Rattle.polyvalues.proofs.Laws.Simplify.{holds-simplified, simple-simplified, each-simplified, length-simplified}
use Rattle.polyvalues.proofs.Laws.Canon.{is-canon}
use Rattle.polyvalues.proofs.Laws.Depends.{free, depends-free, free-each, at-free, free-canon}

-- conditions changed so that they have a where x holds and they had b
holds-changed : (g : ℕ → ℕ) (a b : ℕ) (x : Bool) → ((c : ℕ) → member (g c) a ≡ (x && member c b))
    → (ps : List Pair) (u : ℤ) → holds (changed g ps) a u ≡ (x && holds ps b u)
holds-changed g a b x e [] u = sym (and-false x)
holds-changed g a b x e (p ∷ ps) u = rw (e (assignments p), holds-changed g a b x e ps u) (out x (equal p.value u) (member (assignments p) b) (holds ps b u))
  where
    out : (x y m r : Bool) → (y && (x && m) || x && r) ≡ (x && (y && m || r))
    out true y m r = refl
    out false true m r = refl
    out false false m r = refl

holds-append : (ps qs : List Pair) (a : ℕ) (u : ℤ) → holds (ps ++ qs) a u ≡ (holds ps a u || holds qs a u)
holds-append [] qs a u = refl
holds-append (p ∷ ps) qs a u = rw (holds-append ps qs a u) (sym (or_assoc (equal p.value u && member (assignments p) a) (holds ps a u) (holds qs a u)))

each-changed : (f : Pair → Bool) (g : ℕ → ℕ) → ((p : Pair) → f (pair p.value (g (assignments p))) ≡ true) → (ps : List Pair) → each f (changed g ps) ≡ true
each-changed f g e [] = refl
each-changed f g e (p ∷ ps) = ap₂ ◌&&◌ (e p) (each-changed f g e ps)

pub each_append : {A : Type 0} (f : A → Bool) (xs ys : List A) → each f xs ≡ true → each f ys ≡ true → each f (xs ++ ys) ≡ true
each_append f [] ys d e = e
each_append f (x ∷ xs) ys d e = ap₂ ◌&&◌ (and_left (f x) _ d) (each_append f xs ys (and_right (f x) _ d) e)

-- ---- reducing

simple-reduce : (w i : ℕ) (b : Bool) (ps : List Pair) → Simple w (reduce w i b ps)
unfolding reduce
simple-reduce w i b ps = simple-simplified w _ (each-changed (of_places w) (λ c. reduced w c i b) (λ p. lt-ltb _ _ (reduced-lt w (assignments p) i b)) ps)

pub reduce-canon : (w i : ℕ) (b : Bool) (ps : List Pair) → Complete w ps → reduce w i b ps ≡ canon w (λ a. at ps (with_place w a i b))
unfolding reduce
reduce-canon w i b ps c =
    is-canon w (λ a. at ps (with_place w a i b)) (reduce w i b ps) (simple-reduce w i b ps)
    (λ a u h. holds-simplified w (changed (λ c. reduced w c i b) ps) a u h
    ∙ holds-changed (λ c. reduced w c i b) a (with_place w a i b) true (λ c. member-reduced w c i b a h) ps u
    ∙ holds_at ps (with_place w a i b) u (c.once _ (place-lt w a i b)))

-- it takes no more room
pub reduce-count : (w i : ℕ) (b : Bool) (ps : List Pair) → length (reduce w i b ps) ≤ length ps
unfolding reduce
reduce-count w i b ps = omega (arith, length-simplified w (changed (λ c. reduced w c i b) ps), length-map ps (λ p. pair p.value (reduced w (assignments p) i b)))

free-simplified : (w i : ℕ) (ps : List Pair) → each (free w i) ps ≡ true → depends w (simplified w ps) i ≡ false
free-simplified w i ps e =
    depends-free w (simplified w ps) i
    ∙ ap not (each-simplified w (free w i) (λ p q e f. ap not (union-depends-not w (assignments p) (assignments q) i (not-true _ e) (not-true _ f))) ps e)

-- the result does not depend on the place, nor on one that the pairs did not depend on
pub reduce-free : (w i : ℕ) (b : Bool) (ps : List Pair) → depends w (reduce w i b ps) i ≡ false
unfolding reduce
reduce-free w i b ps = free-simplified w i _ (each-changed (free w i) (λ c. reduced w c i b) (λ p. ap not (reduced-free w (assignments p) i b)) ps)

pub reduce-depends-not : (w i : ℕ) (b : Bool) (ps : List Pair) (j : ℕ) → depends w ps j ≡ false → depends w (reduce w i b ps) j ≡ false
unfolding reduce
reduce-depends-not w i b ps j e = free-simplified w j _ (kept ps (free-each w ps j e))
  where
    kept : (ps : List Pair) → each (free w j) ps ≡ true → each (free w j) (changed (λ c. reduced w c i b) ps) ≡ true
    kept [] f = refl
    kept (p ∷ ps) f =
        ap₂ (λ x r. not x && r)
        (reduced-depends-not w (assignments p) i b j (not-true _ (and_left (free w j p) _ f))) (kept ps (and_right (free w j p) _ f))

-- ---- selecting

pub simple-select : (w i : ℕ) (done gone : List Pair) → Simple w (select w i done gone)
unfolding select
simple-select w i done gone =
    simple-simplified w _ (each_append (of_places w) (changed (λ c. selected w i c 0) done) _
    (each-changed (of_places w) (λ c. selected w i c 0) (λ p. lt-ltb _ _ (selected-lt w i (assignments p) 0)) done)
    (each-changed (of_places w) (λ c. selected w i 0 c) (λ p. lt-ltb _ _ (selected-lt w i 0 (assignments p))) gone))

pub select-canon : (w i : ℕ) (done gone : List Pair) → Complete w done → Complete w gone
    → select w i done gone ≡ canon w (λ a. cond (member a i) (at done a) (at gone a))
unfolding select
select-canon w i done gone c d =
    is-canon w _ (select w i done gone) (simple-select w i done gone)
    (λ a u h. holds-simplified w (changed (λ c. selected w i c 0) done ++ changed (λ c. selected w i 0 c) gone) a u h
    ∙ holds-append (changed (λ c. selected w i c 0) done) (changed (λ c. selected w i 0 c) gone) a u
    ∙ rw (
      holds-changed (λ c. selected w i c 0) a a (member a i) (λ c. member-selected w i c 0 a h ∙ first (member a i) c a) done u,
      holds-changed (λ c. selected w i 0 c) a a (not (member a i)) (λ c. member-selected w i 0 c a h ∙ second (member a i) c a) gone u,
      holds_at done a u (c.once a h),
      holds_at gone a u (d.once a h),
    )
    (pick (member a i) (at done a) (at gone a) u))
  where
    first : (x : Bool) (c a : ℕ) → cond x (member c a) (member 0 a) ≡ (x && member c a)
    first true c a = refl
    first false c a = member-none a

    second : (x : Bool) (c a : ℕ) → cond x (member 0 a) (member c a) ≡ (not x && member c a)
    second true c a = member-none a
    second false c a = refl

    pick : (x : Bool) (v z u : ℤ) → (x && equal v u || not x && equal z u) ≡ equal (cond x v z) u
    pick true v z u = or-false (equal v u)
    pick false v z u = refl

pub select-depends-not : (w i : ℕ) (done gone : List Pair) → Complete w done → Complete w gone
    → (j : ℕ) → (i ≡ j → ⊥) → depends w done j ≡ false → depends w gone j ≡ false → depends w (select w i done gone) j ≡ false
select-depends-not w i done gone c d j apart e f =
    rw (select-canon w i done gone c d) (free-canon w _ j (λ a h. same a h true ∙ sym (same a h false)))
  where
    same : (a : ℕ) → a < 2 ^ w → (x : Bool)
        → cond (member (with_place w a j x) i) (at done (with_place w a j x)) (at gone (with_place w a j x)) ≡ cond (member a i) (at done a) (at gone a)
    same a h x = rw (member-other w a j x i h apart, at-free w done j e x a h, at-free w gone j f x a h)
