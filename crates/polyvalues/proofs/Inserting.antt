-- A pair joined into the rows of a polyvalue: what the code leaves is what the definition says, packed.
use mathlib.Core.Path.{◌≡◌, refl, sym, ap, ap₂, ◌∙◌}
use mathlib.Core.Bool.{Bool, true, false, ◌&&◌, true≢false}
use mathlib.Core.List.{List, [], ◌∷◌, ◌++◌, append_assoc}
use Prim.Native.Nat.{ℕ, suc, ◌+◌, ◌-◌, ◌≤◌, ◌<◌, min}
use native.Mathlib.Omega.{arith}
use lib.Dec.{leb, ltb}
use lib.IntN.{ℤ}
use lib.ListN.{length, get_or, take, drop, set, replicate, length-append, length-take, length-drop, length-set, length-map}
use Rattle.std.specs.Prelude.{Some, None, Ok, is_some}
use Rattle.std.specs.Result.{result_ok}
use lib.Seq.{take-append-le, drop-append-le, set-append_left}
use borrow.Author.Tests.{ltb-true, le-leb, lt-leb, leb-true, leb-false, lt-ltb}
use Rattle.conditions.specs.declared.condition.Condition.{Condition}
use Rattle.conditions.specs.Places.{places}
use Rattle.conditions.specs.Conditions.{number, of_number, full, always, union}
use Rattle.conditions.proofs.Laws.Conditions.{always-full}
use Rattle.conditions.proofs.Laws.Below.{and_left, and_right, by_cases}
use Rattle.conditions.proofs.Laws.Lists.{take_row}
use Rattle.polyvalues.specs.declared.polyvalue.Pair.{Pair}
use Rattle.polyvalues.specs.declared.polyvalue.Polyvalue.{Polyvalue}
use Rattle.polyvalues.specs.Values.{below, equal}
use Rattle.polyvalues.specs.Pairs.{pair, assignments, no_pair, certain}
use Rattle.polyvalues.specs.Polyvalues.{most_pairs, rows_of, in_use, padded, packed, fitting, fitted, AllRows}
use Rattle.polyvalues.specs.Simplify.{insert}
use Rattle.polyvalues.specs.Rows.{value_at, PlaceOf, has_at, carried, moved}
use Rattle.polyvalues.proofs.Laws.Values.{equal-true, below-else}
use Rattle.polyvalues.proofs.Laws.Paired.{rows-packed, paired-set, packed-is}
use Rattle.polyvalues.proofs.Laws.Rows.{insert-new, insert-same}

-- a pair of the code is known by its value and its condition's number
pub pair_is : (v : ℤ) (c : Condition) {n : ℕ} → number c ≡ n → ◌≡◌ {A = Pair} (record { value = v; condition = c }) (pair v n)
pair_is v c e = ap (pair v) e

-- ---- packed rows

pub fitting-yes : (ps : List Pair) → length ps ≤ most_pairs → fitting ps ≡ Some (packed ps)
unfolding fitting
fitting-yes ps h = rw (le-leb (length ps) most_pairs h)

pub fitting-no : (ps : List Pair) → most_pairs < length ps → fitting ps ≡ None
unfolding fitting
fitting-no ps h = rw (lt-leb (length ps) most_pairs h)

pub fitted-yes : (q : Polyvalue) (ps : List Pair) → length ps ≤ most_pairs → fitted q ps ≡ Ok (packed ps)
unfolding fitted
fitted-yes q ps h = rw (le-leb (length ps) most_pairs h)

-- what fits is the same with and without what is handed in else
pub fitted-ok : (q : Polyvalue) (ps : List Pair) → result_ok (fitted q ps) ≡ fitting ps
unfolding fitted fitting
fitted-ok q ps = by_cases (leb (length ps) most_pairs) (λ e. rw e) (λ e. rw e)

-- an answer that it fits, or not, tells that there is room, or not
pub fits-yes : (ps : List Pair) {q : Polyvalue} → Some q ≡ fitting ps → (q ≡ packed ps) × (length ps ≤ most_pairs)
fits-yes ps {q} e =
    by_cases (leb (length ps) most_pairs)
    (λ l. let few : length ps ≤ most_pairs = leb-true (length ps) most_pairs l in (let is = e ∙ fitting-yes ps few in cc, few))
    (λ l. let is = e ∙ fitting-no ps (leb-false (length ps) most_pairs l) in cc)

pub fits-no : (ps : List Pair) → None ≡ fitting ps → most_pairs < length ps
fits-no ps e =
    by_cases (leb (length ps) most_pairs)
    (λ l. let is = e ∙ fitting-yes ps (leb-true (length ps) most_pairs l) in cc)
    (λ l. leb-false (length ps) most_pairs l)

pub is_none-full : (ps : List Pair) → is_some (fitting ps) ≡ false → most_pairs < length ps
is_none-full ps e = by_cases (leb (length ps) most_pairs) (λ l. absurd (true≢false (sym (ap is_some (fitting-yes ps (leb-true (length ps) most_pairs l))) ∙ e))) (λ l. leb-false (length ps) most_pairs l)

pub in_use-length : (q : Polyvalue) → length (in_use q) ≡ min q.count (length (rows_of q))
unfolding in_use
in_use-length q = length-take q.count (rows_of q)

pub in_use-le : (q : Polyvalue) → length (rows_of q) ≡ most_pairs → length (in_use q) ≤ most_pairs
in_use-le q l = omega (arith, in_use-length q)

-- the code's row i, if it is in use, is one of the list
pub in_use-row : (q : Polyvalue) (i : ℕ) {p : Pair} → p ≡ get_or (rows_of q) i no_pair → i < length (in_use q) → get_or (in_use q) i no_pair ≡ p
unfolding in_use
in_use-row q i e h = take_row q.count (rows_of q) i no_pair h ∙ sym e

-- a polyvalue whose rows past the count are zero
module _ (q : Polyvalue) (tidy : q ≡ packed (in_use q)) where
  pub tidy-count : q.count ≡ length (in_use q)
  unfolding packed
  tidy-count = ap (λ (r : Polyvalue). r.count) tidy

  tidy-rows : rows_of q ≡ padded (in_use q)
  tidy-rows = ap (λ (r : Polyvalue). rows_of r) tidy ∙ rows-packed (in_use q)

  tidy-even : length q.values ≡ length q.conditions
  unfolding packed
  tidy-even =
      ap (λ (r : Polyvalue). length r.values) tidy ∙ length-map (padded (in_use q)) (λ p. p.value)
      ∙ sym (length-map (padded (in_use q)) (λ p. p.condition)) ∙ ap (λ (r : Polyvalue). length r.conditions) (sym tidy)

pub has-lt : (q : Polyvalue) (k : ℕ) (v : ℤ) → has_at q k v ≡ true → k < q.count
has-lt q k v e = ltb-true k q.count (and_left (ltb k q.count) (equal (value_at q k) v) e)

-- ---- a row more

-- the last of the rows that move is a zero row
carried-zero : (p z : Pair) (ps zs : List Pair) → carried (suc (length ps)) p (ps ++ z ∷ zs) ≡ p ∷ ps ++ zs
carried-zero p z [] zs = refl
carried-zero p z (q ∷ ps) zs = ap (λ (l : List Pair). p ∷ l) (carried-zero q z ps zs)

moved-rows : (ps : List Pair) (k : ℕ) (p : Pair) → k ≤ length ps → length ps < most_pairs
    → moved k (length ps) p (ps ++ replicate (most_pairs - length ps) no_pair)
    ≡ (take k ps ++ p ∷ drop k ps) ++ replicate (most_pairs - suc (length ps)) no_pair
moved-rows ps k p h l =
    let zeros : most_pairs - length ps ≡ suc (most_pairs - suc (length ps)) = omega arith in
    let rest : suc (length ps) - k ≡ suc (length (drop k ps)) = omega (arith, length-drop k ps) in
    rw (
      zeros,
      take-append-le k ps (no_pair ∷ replicate (most_pairs - suc (length ps)) no_pair) h,
      drop-append-le k ps (no_pair ∷ replicate (most_pairs - suc (length ps)) no_pair) h,
      rest,
      carried-zero p no_pair (drop k ps) (replicate (most_pairs - suc (length ps)) no_pair),
    )
    (sym (append_assoc (take k ps) (p ∷ drop k ps) (replicate (most_pairs - suc (length ps)) no_pair)))

length-new : (ps : List Pair) (k : ℕ) (p : Pair) → k ≤ length ps → length (take k ps ++ p ∷ drop k ps) ≡ suc (length ps)
length-new ps k p h = omega (arith, length-append (take k ps) (p ∷ drop k ps), length-take k ps, length-drop k ps)

-- ---- a pair inserted at the first row whose value is not below its own

module _ (w : ℕ) (q : Polyvalue) (new : Pair) (k : ℕ) (tidy : q ≡ packed (in_use q)) (few : length (in_use q) ≤ most_pairs) (place : PlaceOf q new.value k) where
  within : k ≤ length (in_use q)
  within = omega (arith, place.within, tidy-count q tidy)

  before : (j : ℕ) → j < k → below (get_or (in_use q) j no_pair).value new.value ≡ true
  before j h =
      let l : k ≤ length (in_use q) = within in
      ap (λ (p : Pair). below p.value new.value) (in_use-row q j refl (omega arith)) ∙ place.before j h

  -- the row of its value takes the union
  pub inserted_same : {there both : Pair} → has_at q k new.value ≡ true → there ≡ get_or (rows_of q) k no_pair → both ≡ pair new.value (union w (assignments there) (assignments new))
      → Some (record { count = q.count; values = set q.values k both.value; conditions = set q.conditions k both.condition })
      ≡ fitting (insert w new.value (assignments new) (in_use q))
  inserted_same {both = both} has at is =
      let h : k < length (in_use q) = omega (arith, has-lt q k new.value has, tidy-count q tidy) in
      let value : (get_or (in_use q) k no_pair).value ≡ new.value =
      ap (λ (p : Pair). p.value) (in_use-row q k refl h) ∙ equal-true _ _ (and_right (ltb k q.count) (equal (value_at q k) new.value) has) in
      let result : insert w new.value (assignments new) (in_use q) ≡ set (in_use q) k both =
      insert-same w new.value (assignments new) (in_use q) k h before value
      ∙ ap (set (in_use q) k) (ap (λ (p : Pair). pair new.value (union w (assignments p) (assignments new))) (in_use-row q k at h) ∙ sym is) in
      let long : length (set (in_use q) k both) ≡ length (in_use q) = length-set (in_use q) k both in
      let even : length (set q.values k both.value) ≡ length (set q.conditions k both.condition) =
      length-set q.values k both.value ∙ tidy-even q tidy ∙ sym (length-set q.conditions k both.condition) in
      rw (result, fitting-yes (set (in_use q) k both) (omega arith))
      (ap Some
      (packed-is (set (in_use q) k both) (tidy-count q tidy ∙ sym long) even
      (rw long (paired-set q.values q.conditions k both.value both.condition ∙ ap (λ (l : List Pair). set l k both) (tidy-rows q tidy) ∙ set-append_left (in_use q) _ k both h))))

  result-new : has_at q k new.value ≡ false → insert w new.value (assignments new) (in_use q) ≡ take k (in_use q) ++ new ∷ drop k (in_use q)
  result-new has =
      insert-new w new.value (assignments new) (in_use q) k within before
      (λ h.
      let l : k < q.count = omega (arith, tidy-count q tidy) in
      let apart : equal (value_at q k) new.value ≡ false = ap (λ (b : Bool). b && equal (value_at q k) new.value) (sym (lt-ltb k q.count l)) ∙ has in
      ap (λ (p : Pair). below new.value p.value) (in_use-row q k refl h) ∙ below-else (value_at q k) new.value (place.stops l) apart)

  -- a value that no row has, and no room for it
  pub inserted-none : has_at q k new.value ≡ false → most_pairs ≤ q.count
      → None ≡ fitting (insert w new.value (assignments new) (in_use q))
  inserted-none has full =
      rw (result-new has) (sym (fitting-no _ (omega (arith, length-new (in_use q) k new within, tidy-count q tidy))))

  -- and room for it
  pub inserted_new : {rows : Polyvalue} → AllRows rows → has_at q k new.value ≡ false → q.count < most_pairs → rows_of rows ≡ moved k q.count new (rows_of q)
      → Some (record { count = q.count + 1; values = rows.values; conditions = rows.conditions })
      ≡ fitting (insert w new.value (assignments new) (in_use q))
  inserted_new all has space is =
      let count : q.count ≡ length (in_use q) = tidy-count q tidy in
      let long : length (take k (in_use q) ++ new ∷ drop k (in_use q)) ≡ suc (length (in_use q)) = length-new (in_use q) k new within in
      rw (result-new has, fitting-yes (take k (in_use q) ++ new ∷ drop k (in_use q)) (omega arith))
      (ap Some
      (packed-is (take k (in_use q) ++ new ∷ drop k (in_use q)) (omega arith) (all.values ∙ sym all.conditions)
      (is ∙ ap₂ (λ (n : ℕ) (l : List Pair). moved k n new l) count (tidy-rows q tidy) ∙ moved-rows (in_use q) k new within (omega arith)
      ∙ ap (λ (n : ℕ). (take k (in_use q) ++ new ∷ drop k (in_use q)) ++ replicate (most_pairs - n) no_pair) (sym long))))

-- ---- no pairs, and one

pub certain-packed : {q : Polyvalue} {v z : ℤ} → q ≡ packed [] → z ≡ v
    → ◌≡◌ {A = Polyvalue} (record { count = 1; values = set q.values 0 z; conditions = set q.conditions 0 always }) (packed (certain places v))
unfolding packed certain
certain-packed {q} {v} e f =
    λ i. record { count = 1; values = set (e i).values 0 (f i); conditions = set (e i).conditions 0 (of_number (always-full i)) }
