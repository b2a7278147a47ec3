-- A polyvalue depends on a place exactly where setting the place can change its value.
use mathlib.Core.Path.{◌≡◌, refl, sym, ap, ap₂, ◌∙◌}
use mathlib.Core.Bool.{Bool, true, false, not, ◌&&◌, ◌||◌, cond}
use mathlib.Core.List.{List, [], ◌∷◌}
use Prim.Native.Nat.{ℕ, ◌^◌, ◌<◌}
use lib.IntN.{ℤ}
use borrow.Author.Tests.{not-true, not-false}
use Rattle.conditions.specs.Places.{with_place}
use Rattle.conditions.specs.Conditions.{depends_on}
use Rattle.conditions.proofs.Laws.Below.{and_left, and_right}
use Rattle.conditions.proofs.Laws.Places.{place-lt}
use Rattle.conditions.proofs.Laws.Conditions.{not-depends, unchanged}
use Rattle.polyvalues.specs.declared.polyvalue.Pair.{Pair}
use Rattle.polyvalues.specs.Values.{equal}
use Rattle.polyvalues.specs.Pairs.{assignments, at, depends, certain}
use Rattle.polyvalues.specs.Polyvalues.{each, rises, Complete}
use Rattle.polyvalues.specs.Simplify.{canon}
use Rattle.polyvalues.proofs.Laws.Holds.{holds, head-holds, tail-holds, rises-tail, holds_at}
use Rattle.polyvalues.proofs.Laws.Canon.{at-canon, canon-complete, certain-canon}

-- its condition does not depend on place i
abbrev pub free : ℕ → ℕ → Pair → Bool
free w i p = not (depends_on w (assignments p) i)

pub depends-free : (w : ℕ) (ps : List Pair) (i : ℕ) → depends w ps i ≡ not (each (free w i) ps)
unfolding depends
depends-free w [] i = refl
depends-free w (p ∷ ps) i = rw (depends-free w ps i) (either (depends_on w (assignments p) i) (each (free w i) ps))
  where
    either : (x r : Bool) → (x || not r) ≡ not (not x && r)
    either true r = refl
    either false r = refl

pub free-each : (w : ℕ) (ps : List Pair) (i : ℕ) → depends w ps i ≡ false → each (free w i) ps ≡ true
free-each w ps i e = not-false _ (sym (depends-free w ps i) ∙ e)

-- where it does not, each assignment has the value it has with the place set, in any list
pub at-free : (w : ℕ) (ps : List Pair) (i : ℕ) → depends w ps i ≡ false → (b : Bool) (a : ℕ) → a < 2 ^ w → at ps (with_place w a i b) ≡ at ps a
at-free w ps i e b a h = go ps (free-each w ps i e)
  where
    go : (ps : List Pair) → each (free w i) ps ≡ true → at ps (with_place w a i b) ≡ at ps a
    go [] f = refl
    go (p ∷ ps) f =
        ap₂ (λ x y. cond x p.value y)
        (unchanged w (assignments p) i (not-true _ (and_left (free w i p) _ f)) b a h) (go ps (and_right (free w i p) _ f))

free-holds : (w : ℕ) (ps : List Pair) (i : ℕ) → rises ps ≡ true
    → ((a : ℕ) (u : ℤ) → a < 2 ^ w → holds ps (with_place w a i true) u ≡ holds ps (with_place w a i false) u) → depends w ps i ≡ false
unfolding depends
free-holds w [] i r e = refl
free-holds w (p ∷ ps) i r e =
    ap₂ ◌||◌
    (not-depends w (assignments p) i (λ a h. sym (head-holds p ps r _) ∙ e a p.value h ∙ head-holds p ps r _))
    (free-holds w ps i (rises-tail p.value ps r)
    (λ a u h. tail-holds p ps r _ u ∙ ap (λ (m : Bool). not (equal p.value u) && m) (e a u h) ∙ sym (tail-holds p ps r _ u)))

pub free-at : (w : ℕ) (ps : List Pair) (i : ℕ) → Complete w ps
    → ((a : ℕ) → a < 2 ^ w → at ps (with_place w a i true) ≡ at ps (with_place w a i false)) → depends w ps i ≡ false
free-at w ps i c e =
    free-holds w ps i c.simple.rising
    (λ a u h. holds_at ps _ u (c.once _ (place-lt w a i true)) ∙ ap (λ (v : ℤ). equal v u) (e a h) ∙ sym (holds_at ps _ u (c.once _ (place-lt w a i false))))

pub free-canon : (w : ℕ) (f : ℕ → ℤ) (i : ℕ) → ((a : ℕ) → a < 2 ^ w → f (with_place w a i true) ≡ f (with_place w a i false)) → depends w (canon w f) i ≡ false
free-canon w f i e =
    free-at w (canon w f) i (canon-complete w f)
    (λ a h. at-canon w f _ (place-lt w a i true) ∙ e a h ∙ sym (at-canon w f _ (place-lt w a i false)))

-- a pair that always applies
pub certain-free : (w : ℕ) (v : ℤ) (i : ℕ) → depends w (certain w v) i ≡ false
certain-free w v i = rw (certain-canon w v) (free-canon w (λ a. v) i (λ a h. refl))
