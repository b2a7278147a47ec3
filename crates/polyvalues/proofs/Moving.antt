-- The rows of a polyvalue, as the code moves and clears them in both arrays.
use mathlib.Core.Path.{◌≡◌, refl, sym, ap, ap₂, ◌∙◌}
use mathlib.Core.List.{List, [], ◌∷◌, ◌++◌, map, append-nil, append_assoc}
use Prim.Native.Nat.{ℕ, zero, suc, ◌+◌, ◌-◌, ◌≤◌, ◌<◌}
use native.Mathlib.Numerals.{add-one}
use native.Mathlib.Omega.{arith}
use lib.IntN.{ℤ, pos}
use lib.ListN.{length, get_or, take, drop, set, replicate, length-take, length-drop, length-map, take-append-drop, drop_of_length-le}
use lib.Seq.{drop-cons, take-suc, take-suc-set, drop-set-lt, take_at, set_at}
use Rattle.std.specs.List.{copy_within}
use Rattle.std.proofs.lemmas.List.{take-map, drop-map, map-append, map-set, drop-drop}
use borrow.Rule.Slice.PartMut.{post_of, put_mid, Post-is}
use Rattle.conditions.specs.declared.condition.Condition.{Condition}
use Rattle.conditions.specs.Conditions.{of_number}
use Rattle.polyvalues.specs.declared.polyvalue.Pair.{Pair}
use Rattle.polyvalues.specs.declared.polyvalue.Polyvalue.{Polyvalue}
use Rattle.polyvalues.specs.Pairs.{no_pair}
use Rattle.polyvalues.specs.Polyvalues.{most_pairs, rows_of, in_use, padded, packed, AllRows, paired}
use Rattle.polyvalues.specs.Rows.{carried, moved}
use Rattle.polyvalues.proofs.Laws.Paired.{values-paired, conditions-paired, paired-is, packed-is, rows_long}

-- one row more has moved
pub moved_more : (i n : ℕ) (p : Pair) (ps : List Pair) → i ≤ n → i < length ps
    → moved (suc i) n (get_or ps i no_pair) (set ps i p) ≡ moved i n p ps
moved_more i n p ps h l =
    let e : suc n - suc i ≡ n - i = omega arith in
    let f : suc n - i ≡ suc (n - i) = omega arith in
    rw (take-suc-set ps i p l, drop-set-lt (suc i) ps i p (omega arith), drop-cons ps i no_pair l, e, f)
    (append_assoc (take i ps) (p ∷ []) (carried (n - i) (get_or ps i no_pair) (drop (suc i) ps)))

-- past the last one nothing is left to move
pub moved_all : (i n : ℕ) (p : Pair) (ps : List Pair) → n < i → moved i n p ps ≡ ps
moved_all i n p ps h = let e : suc n - i ≡ 0 = omega arith in rw e (take-append-drop i ps)

-- the last of the rows that move is written over
carried-is : (m : ℕ) (p : Pair) (ps : List Pair) → m < length ps → carried (suc m) p ps ≡ p ∷ take m ps ++ drop (suc m) ps
carried-is m p [] h = absurd (omega arith)
carried-is zero p (q ∷ ps) h = refl
carried-is (suc m) p (q ∷ ps) h = ap (λ (l : List Pair). p ∷ l) (carried-is m q ps (omega arith))

-- a row and those after it copied to the next places, and then set
copied-moved : (k n : ℕ) (p : Pair) (ps : List Pair) → k ≤ n → n < length ps → set (copy_within ps k n (k + 1)) k p ≡ moved k n p ps
copied-moved k n p ps h l =
    let long : length (take k ps) ≡ k = omega (arith, length-take k ps) in
    let more : suc n - k ≡ suc (n - k) = omega arith in
    let end : k + suc (n - k) ≡ suc k + (n - k) = omega arith in
    let few : n - k < length (drop k ps) = omega (arith, length-drop k ps) in
    rw (
      add-one k,
      take-suc ps k no_pair (omega arith),
      append_assoc (take k ps ++ get_or ps k no_pair ∷ []) (take (n - k) (drop k ps)) (drop (suc k + (n - k)) ps),
      append_assoc (take k ps) (get_or ps k no_pair ∷ []) (take (n - k) (drop k ps) ++ drop (suc k + (n - k)) ps),
      set_at (take k ps) (get_or ps k no_pair) (take (n - k) (drop k ps) ++ drop (suc k + (n - k)) ps) p k long,
      more,
      carried-is (n - k) p (drop k ps) few,
      drop-drop (suc (n - k)) k ps,
      end,
    )

map-replicate : {X Y : Type 0} (f : X → Y) (n : ℕ) (x : X) → map f (replicate n x) ≡ replicate n (f x)
map-replicate f zero x = refl
map-replicate {Y = Y} f (suc n) x = ap (λ (l : List Y). f x ∷ l) (map-replicate f n x)

copy-map : {X Y : Type 0} (f : X → Y) (xs : List X) (i j d : ℕ) → copy_within (map f xs) i j d ≡ map f (copy_within xs i j d)
copy-map f xs i j d = simp (map-append, take-map, drop-map)

module _ (q : Polyvalue) (all : AllRows q) where
  -- the values and the conditions are those of the rows
  values : q.values ≡ map (λ p. p.value) (rows_of q)
  values = sym (values-paired q.values q.conditions (all.values ∙ sym all.conditions))

  conditions : q.conditions ≡ map (λ p. p.condition) (rows_of q)
  conditions = sym (conditions-paired q.values q.conditions (all.values ∙ sym all.conditions))

  pub moved-is : (k n : ℕ) (p : Pair) → k ≤ n → n < most_pairs
      → paired (set (copy_within q.values k n (k + 1)) k p.value) (set (copy_within q.conditions k n (k + 1)) k p.condition) ≡ moved k n p (rows_of q)
  moved-is k n p h l =
      paired-is (set (copy_within (rows_of q) k n (k + 1)) k p)
      (ap (λ (vs : List ℤ). set (copy_within vs k n (k + 1)) k p.value) values ∙ ap (λ (vs : List ℤ). set vs k p.value) (copy-map (λ p. p.value) (rows_of q) k n (k + 1)) ∙ sym (map-set (λ p. p.value) (copy_within (rows_of q) k n (k + 1)) k p))
      (ap (λ (cs : List Condition). set (copy_within cs k n (k + 1)) k p.condition) conditions ∙ ap (λ (cs : List Condition). set cs k p.condition) (copy-map (λ p. p.condition) (rows_of q) k n (k + 1)) ∙ sym (map-set (λ p. p.condition) (copy_within (rows_of q) k n (k + 1)) k p))
      ∙ copied-moved k n p (rows_of q) h (omega (arith, rows_long all))

  -- in each array the rows from n on are written over
  half : {Y : Type 0} (f : Pair → Y) {n : ℕ} {xs us : List Y} → xs ≡ map f (rows_of q) → n ≤ most_pairs → us ≡ replicate (most_pairs - n) (f no_pair)
      → put_mid n (most_pairs - n) xs us ≡ map f (take n (rows_of q) ++ replicate (most_pairs - n) no_pair)
  half f {n} {xs} e h u =
      let long : length xs ≡ most_pairs = ap length e ∙ length-map (rows_of q) f ∙ rows_long all in
      let none : post_of n (most_pairs - n) xs ≡ [] = Post-is n most_pairs xs h ∙ drop_of_length-le xs {i = most_pairs} (omega arith) in
      rw (none, u, e, append-nil (replicate (most_pairs - n) (f no_pair)), take-map f n (rows_of q), map-append f (take n (rows_of q)) (replicate (most_pairs - n) no_pair), map-replicate f (most_pairs - n) no_pair)

  in-use : (n : ℕ) → n ≡ length (in_use q) → take n (rows_of q) ++ replicate (most_pairs - n) no_pair ≡ padded (in_use q)
  unfolding in_use
  in-use n e =
      ap₂ (λ (x : List Pair) (k : ℕ). x ++ replicate (most_pairs - k) no_pair)
      (ap (take n) (sym (take-append-drop q.count (rows_of q))) ∙ take_at (take q.count (rows_of q)) (drop q.count (rows_of q)) n (sym e)) e

  pub cleared-is : {n : ℕ} {us : List ℤ} {ds : List Condition} → n ≡ length (in_use q) → n ≤ most_pairs → us ≡ replicate (most_pairs - n) (pos 0) → ds ≡ replicate (most_pairs - n) (of_number 0)
      → ◌≡◌ {A = Polyvalue} (record { count = n; values = put_mid n (most_pairs - n) q.values us; conditions = put_mid n (most_pairs - n) q.conditions ds }) (packed (in_use q))
  cleared-is {n} e h u d =
      let rows : List Pair = take n (rows_of q) ++ replicate (most_pairs - n) no_pair in
      let vs = half (λ p. p.value) values h u in
      let cs = half (λ p. p.condition) conditions h d in
      packed-is (in_use q) e (ap length vs ∙ length-map rows (λ p. p.value) ∙ sym (ap length cs ∙ length-map rows (λ p. p.condition))) (paired-is rows vs cs ∙ in-use n e)
