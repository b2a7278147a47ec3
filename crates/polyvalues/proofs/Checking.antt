-- The test of the rows, one after the other, is the one that document 01 words.
use mathlib.Core.Path.{◌≡◌, refl, sym, ap, ap₂, ◌∙◌}
use mathlib.Core.Bool.{Bool, true, not, ◌&&◌}
use mathlib.Core.List.{List, [], ◌∷◌}
use Prim.Native.Nat.{ℕ, ◌≤◌, ◌^◌}
use native.Mathlib.Omega.{arith}
use lib.IntN.{ℤ, pos, negsuc}
use lib.ListN.{length}
use lib.Pow.{pow_pos}
use lib.Signed.{le_z}
use borrow.Author.Tests.{lt-ltb, leb-true}
use Rattle.conditions.specs.Conditions.{union, intersection, empty}
use Rattle.conditions.proofs.Laws.Below.{and_left, and_right, and-swap, both_ways, four}
use Rattle.conditions.proofs.Laws.Sets.{member-none}
use Rattle.polyvalues.specs.declared.polyvalue.Pair.{Pair}
use Rattle.polyvalues.specs.Values.{in_range, below}
use Rattle.polyvalues.specs.Pairs.{assignments}
use Rattle.polyvalues.specs.Polyvalues.{each, rises_from, rises, of_places, proper, most_pairs, Complete, well_formed}
use Rattle.polyvalues.specs.Checked.{below_all, row_fits, checked_from}
use Rattle.polyvalues.proofs.Laws.Cover.{covers, covers-once, once-covers}
use Rattle.polyvalues.proofs.Laws.WellFormed.{complete-some, well_formed-true, true-well_formed}

abbrev filled : ℕ → Pair → Bool
filled w p = not (empty w (assignments p))

-- row by row, it is four tests of all rows
checked-is : (w : ℕ) (v : ℤ) (s : ℕ) (ps : List Pair) → checked_from w v s ps ≡ (rises_from v ps && each (λ p. in_range p.value) ps && each (filled w) ps && covers w s ps)
unfolding checked_from
checked-is w v s [] = refl
checked-is w v s (p ∷ ps) =
    let up : Bool = below v p.value in
    let ranged : Bool = in_range p.value in
    let apart : Bool = empty w (intersection w s (assignments p)) in
    ap (λ (rest : Bool). row_fits w v s p && rest) (checked-is w p.value (union w s (assignments p)) ps)
    ∙ and-swap (up && ranged && filled w p) apart _ _
    ∙ ap (λ (rows : Bool). rows && covers w s (p ∷ ps)) (and-swap (up && ranged) (filled w p) _ _ ∙ ap (λ (rows : Bool). rows && each (filled w) (p ∷ ps)) (and-swap up ranged _ _))

-- every value is above −10,000
below-range : (v : ℤ) → in_range v ≡ true → below below_all v ≡ true
unfolding in_range
below-range (pos n) e = refl
below-range (negsuc n) e = let h : n ≤ 9998 = leb-true n 9998 (and_left (le_z (negsuc 9998) (negsuc n)) _ e) in lt-ltb n 9999 (omega arith)

rises-from : (ps : List Pair) → each (λ p. in_range p.value) ps ≡ true → rises ps ≡ rises_from below_all ps
rises-from [] e = refl
rises-from (p ∷ ps) e = sym (ap (λ (b : Bool). b && rises_from p.value ps) (below-range p.value (and_left (in_range p.value) _ e)))

proper-filled : (w : ℕ) (ps : List Pair) → each (of_places w) ps ≡ true → each (proper w) ps ≡ each (filled w) ps
proper-filled w [] e = refl
proper-filled w (p ∷ ps) e =
    ap₂ ◌&&◌ (ap (λ (b : Bool). b && not (empty w (assignments p))) (and_left (of_places w p) _ e)) (proper-filled w ps (and_right (of_places w p) _ e))

pub checked-well_formed : (w : ℕ) (ps : List Pair) → each (of_places w) ps ≡ true → length ps ≤ most_pairs → checked_from w below_all 0 ps ≡ well_formed w ps
checked-well_formed w ps o few =
    both_ways (checked_from w below_all 0 ps) (well_formed w ps)
    (λ e.
    let t = four (rises_from below_all ps) (each (λ p. in_range p.value) ps) (each (filled w) ps) (covers w 0 ps) (sym (checked-is w below_all 0 ps) ∙ e) in
    let complete : Complete w ps = record {
      simple = record { rising = rises-from ps t.1 ∙ t.0; conditions = proper-filled w ps o ∙ t.2 };
      once = λ a h. omega (arith, rw (member-none a) at (covers-once w 0 ps t.3 a h));
    } in
    well_formed-true w ps (record { complete = complete; some = complete-some w ps complete; few = few; values = t.1 }))
    (λ e.
    let f = true-well_formed w ps e in
    checked-is w below_all 0 ps
    ∙ ap₂ ◌&&◌ (ap₂ ◌&&◌ (ap₂ ◌&&◌ (sym (rises-from ps f.values) ∙ f.complete.simple.rising) f.values) (sym (proper-filled w ps o) ∙ f.complete.simple.conditions))
    (once-covers w 0 ps (pow_pos (2 ^ w)) (λ a h. rw (member-none a) (omega (arith, f.complete.once a h)))))
