-- A list of pairs simplified has the same relation of assignments and values, and is simple.
use mathlib.Core.Path.{◌≡◌, refl, sym, ◌∙◌}
use mathlib.Core.Bool.{Bool, true, ◌&&◌, ◌||◌, or-false, or_assoc}
use mathlib.Core.List.{List, [], ◌∷◌}
use Prim.Native.Nat.{ℕ, ◌+◌, ◌^◌, ◌≤◌, ◌<◌}
use native.Mathlib.Omega.{arith}
use lib.IntN.{ℤ}
use lib.ListN.{length}
use borrow.Author.Tests.{ltb-true}
use Rattle.conditions.specs.Conditions.{union}
use Rattle.conditions.proofs.Laws.Below.{and_left, and_right, or_swap}
use Rattle.polyvalues.specs.declared.polyvalue.Pair.{Pair}
use Rattle.polyvalues.specs.Values.{equal}
use Rattle.polyvalues.specs.Pairs.{pair, assignments, applies}
use Rattle.polyvalues.specs.Polyvalues.{each, of_places, Simple}
use Rattle.polyvalues.specs.Simplify.{join, simplified_from, simplified}
use Rattle.polyvalues.proofs.Laws.Holds.{holds}
use Rattle.polyvalues.proofs.Laws.Join.{holds-join, each-join, simple-join, length-join, grows-join}

pub nothing-simple : (w : ℕ) → Simple w []
nothing-simple w = record { rising = refl; conditions = refl }

holds-from : (w : ℕ) (qs ps : List Pair) (a : ℕ) (u : ℤ) → a < 2 ^ w → holds (simplified_from w qs ps) a u ≡ (holds qs a u || holds ps a u)
unfolding simplified_from
holds-from w qs [] a u h = sym (or-false (holds qs a u))
holds-from w qs (p ∷ ps) a u h =
    let here : Bool = equal p.value u && applies p a in
    holds-from w (join w p.value (assignments p) qs) ps a u h
    ∙ rw (holds-join w p.value (assignments p) qs a u h) (or_assoc here (holds qs a u) (holds ps a u) ∙ or_swap here (holds qs a u) (holds ps a u))

pub holds-simplified : (w : ℕ) (ps : List Pair) (a : ℕ) (u : ℤ) → a < 2 ^ w → holds (simplified w ps) a u ≡ holds ps a u
unfolding simplified
holds-simplified w ps a u h = holds-from w [] ps a u h

simple-from : (w : ℕ) (qs ps : List Pair) → each (of_places w) ps ≡ true → Simple w qs → Simple w (simplified_from w qs ps)
unfolding simplified_from
simple-from w qs [] e s = s
simple-from w qs (p ∷ ps) e s =
    simple-from w (join w p.value (assignments p) qs) ps (and_right (of_places w p) _ e) (simple-join w p.value (assignments p) qs (ltb-true _ _ (and_left (of_places w p) _ e)) s)

pub simple-simplified : (w : ℕ) (ps : List Pair) → each (of_places w) ps ≡ true → Simple w (simplified w ps)
unfolding simplified
simple-simplified w ps e = simple-from w [] ps e (nothing-simple w)

-- what is true of each pair, and of the union of two, is true of each pair of the simplification
module _ (w : ℕ) (f : Pair → Bool) (both : (p q : Pair) → f p ≡ true → f q ≡ true → f (pair p.value (union w (assignments p) (assignments q))) ≡ true) where
  each_from : (qs ps : List Pair) → each f qs ≡ true → each f ps ≡ true → each f (simplified_from w qs ps) ≡ true
  unfolding simplified_from
  each_from qs [] d e = d
  each_from qs (p ∷ ps) d e =
      let first : f p ≡ true = and_left (f p) _ e in
      each_from (join w p.value (assignments p) qs) ps (each-join w p.value (assignments p) f (λ q g. both q p g first) qs (λ n. first) d) (and_right (f p) _ e)

  pub each-simplified : (ps : List Pair) → each f ps ≡ true → each f (simplified w ps) ≡ true
  unfolding simplified
  each-simplified ps e = each_from [] ps refl e

length_from : (w : ℕ) (qs ps : List Pair) → length (simplified_from w qs ps) ≤ length qs + length ps
unfolding simplified_from
length_from w qs [] = omega arith
length_from w qs (p ∷ ps) = omega (arith, length_from w (join w p.value (assignments p) qs) ps, length-join w p.value (assignments p) qs)

pub length-simplified : (w : ℕ) (ps : List Pair) → length (simplified w ps) ≤ length ps
unfolding simplified
length-simplified w ps = omega (arith, length_from w [] ps)

-- what is at hand never has to shrink: where the result has room, so has each step
pub grows_from : (w : ℕ) (qs ps : List Pair) → length qs ≤ length (simplified_from w qs ps)
unfolding simplified_from
grows_from w qs [] = omega arith
grows_from w qs (p ∷ ps) = omega (arith, grows-join w p.value (assignments p) qs, grows_from w (join w p.value (assignments p) qs) ps)
