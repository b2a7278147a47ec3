-- A polyvalue as the code keeps it, and the list of its pairs.
use mathlib.Core.Path.{◌≡◌, refl, sym, ap, ap₂, ◌∙◌}
use mathlib.Core.Bool.{true, ◌&&◌}
use mathlib.Core.List.{List, [], ◌∷◌, ◌++◌}
use Prim.Native.Nat.{ℕ, zero, suc, ◌-◌, ◌≤◌}
use native.Mathlib.Omega.{arith}
use lib.Dec.{eqb, leb}
use lib.IntN.{pos}
use lib.ListN.{length, take, drop, replicate, take-append-drop, length-drop}
use lib.Seq.{take-append_seam, drop-append_seam, length-take-le}
use borrow.Author.Tests.{eqb-true, le-leb, leb-true}
use Rattle.conditions.proofs.Laws.Below.{and_left, and_right}
use Rattle.polyvalues.specs.declared.polyvalue.Pair.{Pair}
use Rattle.polyvalues.specs.declared.polyvalue.Polyvalue.{Polyvalue}
use Rattle.polyvalues.specs.Values.{equal}
use Rattle.polyvalues.specs.Pairs.{assignments, no_pair, blank}
use Rattle.polyvalues.specs.Polyvalues.{each, most_pairs, sound, WellFormed, well_formed, rows_of, in_use, tidy, padded, packed, AllRows}
use Rattle.polyvalues.proofs.Laws.Values.{equal-true}
use Rattle.polyvalues.proofs.Laws.Holds.{same-pair}
use Rattle.polyvalues.proofs.Laws.Paired.{rows-packed, packed-is, rows_long}
use Rattle.polyvalues.proofs.Laws.WellFormed.{well_formed-true, true-well_formed}

pub in_use-packed : (ps : List Pair) → in_use (packed ps) ≡ ps
unfolding in_use packed
in_use-packed ps = rw (rows-packed ps) (take-append_seam ps (replicate (most_pairs - length ps) no_pair))

tidy-packed : (ps : List Pair) → tidy (packed ps) ≡ true
unfolding tidy packed
tidy-packed ps = rw (rows-packed ps, drop-append_seam ps (replicate (most_pairs - length ps) no_pair)) (blanks (most_pairs - length ps))
  where
    blanks : (n : ℕ) → each blank (replicate n no_pair) ≡ true
    blanks zero = refl
    blanks (suc n) = blanks n

packed-tidy : (q : Polyvalue) → q.count ≤ most_pairs → AllRows q → tidy q ≡ true → packed (in_use q) ≡ q
unfolding in_use tidy
packed-tidy q c all t =
    let l : length (rows_of q) ≡ most_pairs = rows_long all in
    let count : length (take q.count (rows_of q)) ≡ q.count = length-take-le q.count (rows_of q) (omega arith) in
    let past : most_pairs - length (take q.count (rows_of q)) ≡ length (drop q.count (rows_of q)) = omega (arith, length-drop q.count (rows_of q)) in
    let rows : padded (take q.count (rows_of q)) ≡ rows_of q =
    ap (λ n. take q.count (rows_of q) ++ replicate n no_pair) past
    ∙ ap (λ r. take q.count (rows_of q) ++ r) (sym (zeros (drop q.count (rows_of q)) t))
    ∙ take-append-drop q.count (rows_of q) in
    sym (packed-is (take q.count (rows_of q)) (sym count) (all.values ∙ sym all.conditions) (sym rows))
  where
    zeros : (ps : List Pair) → each blank ps ≡ true → ps ≡ replicate (length ps) no_pair
    zeros [] e = refl
    zeros (p ∷ ps) e =
        let this = and_left (blank p) _ e in
        ap₂ ◌∷◌
        (same-pair p no_pair (equal-true p.value (pos 0) (and_left _ (eqb (assignments p) 0) this)) (eqb-true (assignments p) 0 (and_right (equal p.value (pos 0)) _ this)))
        (zeros ps (and_right (blank p) _ e))

pub packed-sound : (w : ℕ) (ps : List Pair) → WellFormed w ps → sound w (packed ps) ≡ true
unfolding sound packed
packed-sound w ps f = ap₂ ◌&&◌ (le-leb (length ps) most_pairs f.few) (ap₂ ◌&&◌ (tidy-packed ps) (ap (well_formed w) (in_use-packed ps) ∙ well_formed-true w ps f))

pub sound-well_formed : (w : ℕ) (q : Polyvalue) → sound w q ≡ true → WellFormed w (in_use q)
unfolding sound
sound-well_formed w q e = true-well_formed w (in_use q) (and_right (tidy q) _ (and_right (leb q.count most_pairs) _ e))

-- a sound polyvalue is known by its pairs
pub sound-packed : (w : ℕ) (q : Polyvalue) → AllRows q → sound w q ≡ true → packed (in_use q) ≡ q
unfolding sound
sound-packed w q l e =
    packed-tidy q (leb-true q.count most_pairs (and_left (leb q.count most_pairs) _ e)) l
    (and_left (tidy q) _ (and_right (leb q.count most_pairs) _ e))
