-- Rows joined one after the other, and answers that there is room or not.
use mathlib.Core.Path.{◌≡◌, refl, sym, ap, ◌∙◌}
use mathlib.Core.Bool.{Bool, ◌||◌, or-false, or_assoc}
use mathlib.Core.List.{List, [], ◌∷◌, ◌++◌}
use Prim.Native.Nat.{ℕ, suc, ◌^◌, ◌≤◌, ◌<◌}
use native.Mathlib.Omega.{arith}
use lib.Dec.{leb}
use lib.Bits.{bit_or}
use lib.ListN.{length, get_or, drop, drop_of_length-le, length-map}
use Rattle.std.specs.Prelude.{Option, Some, None, ok_or}
use Rattle.conditions.specs.Places.{places}
use Rattle.conditions.specs.Sets.{member, set_of}
use Rattle.conditions.specs.Conditions.{selected, depends_on}
use Rattle.conditions.proofs.Laws.Sets.{member-none, member-or, member-set_of, is-set_of}
use Rattle.conditions.proofs.Laws.Below.{by_cases}
use Rattle.conditions.proofs.Laws.Lists.{drop-take}
use Rattle.polyvalues.specs.declared.polyvalue.Pair.{Pair}
use Rattle.polyvalues.specs.declared.polyvalue.Polyvalue.{Polyvalue}
use Rattle.polyvalues.specs.Pairs.{pair, assignments, no_pair, depends}
use Rattle.polyvalues.specs.Polyvalues.{most_pairs, rows_of, in_use, packed, fitting, fitted}
use Rattle.polyvalues.specs.Simplify.{join, simplified_from, simplified}
use Rattle.polyvalues.specs.Operations.{changed, select}
use Rattle.polyvalues.proofs.Laws.Simplify.{grows_from, length-simplified}
use Rattle.polyvalues.proofs.Laws.Packed.{in_use-packed}
use Rattle.polyvalues.proofs.Inserting.{fitting-yes, fits-yes, fits-no}

-- ---- answers

-- what was packed is packed
pub packed-again : (ps : List Pair) {q : Polyvalue} → q ≡ packed ps → q ≡ packed (in_use q)
packed-again ps e = e ∙ ap packed (sym (ap in_use e ∙ in_use-packed ps))

pub packed-in_use : (ps : List Pair) {q : Polyvalue} → q ≡ packed ps → in_use q ≡ ps
packed-in_use ps e = ap in_use e ∙ in_use-packed ps

-- where there is no room, the answer is what was handed in
pub fitted-or : (q : Polyvalue) (ps : List Pair) → ok_or (fitting ps) (record { 0 = q }) ≡ fitted q ps
unfolding fitting fitted
fitted-or q ps = by_cases (leb (length ps) most_pairs) (λ e. rw e) (λ e. rw e)

-- ---- rows

-- from row i on there are it and those after it
pub in_use-more : (q : Polyvalue) (i : ℕ) {p : Pair} → p ≡ get_or (rows_of q) i no_pair → i < length (in_use q) → drop i (in_use q) ≡ p ∷ drop (suc i) (in_use q)
unfolding in_use
in_use-more q i e h = rw e (drop-take q.count (rows_of q) i no_pair h)

-- s has the places that a row before i depends on: those that the polyvalue depends on and the rows from i on leave out
abbrev pub PlacesBefore : Polyvalue → ℕ → ℕ → Type 0
PlacesBefore q i s = (p : ℕ) → p < places → (member s p || depends places (drop i (in_use q)) p) ≡ depends places (in_use q) p

pub places-none : (q : Polyvalue) → PlacesBefore q 0 0
places-none q p l = rw (member-none p)

pub places-more : (q : Polyvalue) (i s : ℕ) {row : Pair} {more : ℕ} → row ≡ get_or (rows_of q) i no_pair → i < length (in_use q) → more ≡ set_of places (depends_on places (assignments row))
    → PlacesBefore q i s → PlacesBefore q (suc i) (bit_or s more)
unfolding depends
places-more q i s {row} {more} at h e before p l =
    let its : member more p ≡ depends_on places (assignments row) p = ap (λ (m : ℕ). member m p) e ∙ member-set_of places (depends_on places (assignments row)) p l in
    ap (λ (b : Bool). b || depends places (drop (suc i) (in_use q)) p) (member-or s more p ∙ ap (λ (b : Bool). member s p || b) its)
    ∙ or_assoc (member s p) (depends_on places (assignments row) p) (depends places (drop (suc i) (in_use q)) p)
    ∙ rw (in_use-more q i at h) at (before p l)

pub places-done : (q : Polyvalue) (i s : ℕ) → length (in_use q) ≤ i → s < 2 ^ places → PlacesBefore q i s → s ≡ set_of places (depends places (in_use q))
unfolding depends
places-done q i s h l before = is-set_of places s (depends places (in_use q)) l (λ p t. rw (drop_of_length-le (in_use q) h, or-false) at (before p t))

-- ---- reduce and select

-- the rows with their conditions changed, joined into nothing
pub changed-rows : (w : ℕ) (f : ℕ → ℕ) {n : Polyvalue} → n ≡ packed [] → (q : Polyvalue) {r : Option Polyvalue} → length (in_use q) ≤ most_pairs
    → r ≡ fitting (simplified_from w (in_use n) (changed f (in_use q))) → r ≡ Some (packed (simplified w (changed f (in_use q))))
unfolding simplified
changed-rows w f {n} empty q few e =
    let rows : List Pair = changed f (in_use q) in
    let is : simplified_from w (in_use n) rows ≡ simplified w rows = ap (λ (l : List Pair). simplified_from w l rows) (packed-in_use [] empty) in
    e ∙ ap fitting is ∙ fitting-yes (simplified w rows) (omega (arith, length-simplified w rows, length-map (in_use q) (λ p. pair p.value (f (assignments p)))))

from-append : (w : ℕ) (done ps qs : List Pair) → simplified_from w done (ps ++ qs) ≡ simplified_from w (simplified_from w done ps) qs
unfolding simplified_from
from-append w done [] qs = refl
from-append w done (p ∷ ps) qs = from-append w (join w p.value (assignments p) done) ps qs

pub selected-rows : (w i : ℕ) (done gone t : Polyvalue) → t ≡ packed (simplified w (changed (λ c. selected w i c 0) (in_use done)))
    → simplified_from w (in_use t) (changed (λ c. selected w i 0 c) (in_use gone)) ≡ select w i (in_use done) (in_use gone)
unfolding select simplified
selected-rows w i done gone t e =
    ap (λ (l : List Pair). simplified_from w l (changed (λ c. selected w i 0 c) (in_use gone))) (packed-in_use _ e)
    ∙ sym (from-append w [] (changed (λ c. selected w i c 0) (in_use done)) (changed (λ c. selected w i 0 c) (in_use gone)))

-- ---- one turn of the loop over the rows: `new` is row i with its condition changed

module _ (w : ℕ) (f : ℕ → ℕ) (done rows : Polyvalue) (i : ℕ) (target : List Pair) {row new : Pair} (at : row ≡ get_or (rows_of rows) i no_pair) (more : i < length (in_use rows))
    (left : simplified_from w (in_use done) (changed f (drop i (in_use rows))) ≡ target)
    (is : new ≡ pair row.value (f (assignments row))) where
  after : simplified_from w (join w new.value (assignments new) (in_use done)) (changed f (drop (suc i) (in_use rows))) ≡ target
  unfolding simplified_from
  after =
      ap (λ (p : Pair). simplified_from w (join w p.value (assignments p) (in_use done)) (changed f (drop (suc i) (in_use rows)))) is
      ∙ rw (in_use-more rows i at more) at left

  pub turn-fits : {r : Polyvalue} → Some r ≡ fitting (join w new.value (assignments new) (in_use done))
      → (r ≡ packed (in_use r)) × (length (in_use r) ≤ most_pairs) × (simplified_from w (in_use r) (changed f (drop (suc i) (in_use rows))) ≡ target)
  turn-fits {r} e =
      let yes' = fits-yes (join w new.value (assignments new) (in_use done)) e in
      let same : in_use r ≡ join w new.value (assignments new) (in_use done) = packed-in_use _ yes'.0 in
      (packed-again _ yes'.0, rw same yes'.1, rw same after)

  pub turn-full : None ≡ fitting (join w new.value (assignments new) (in_use done)) → most_pairs < length target
  turn-full e =
      omega (
        arith,
        fits-no (join w new.value (assignments new) (in_use done)) e,
        grows_from w (join w new.value (assignments new) (in_use done)) (changed f (drop (suc i) (in_use rows))),
        ap length after,
      )
