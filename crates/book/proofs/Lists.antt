-- What the library says of the rows of a list, as the document says it of their numbers.
use mathlib.Core.Path.{◌≡◌, refl, sym, ap, ap₂, ◌∙◌}
use mathlib.Core.Bool.{Bool, true, false, not, ◌&&◌, ◌||◌, cond}
use mathlib.Core.List.{List, [], ◌∷◌}
use Prim.Native.Nat.{ℕ, zero, suc, ◌+◌, ◌-◌, ◌≤◌, ◌<◌, min}
use native.Mathlib.Numerals.{add-one, one-add}
use native.Mathlib.Omega.{arith}
use lib.Dec.{ltb}
use borrow.Author.Tests.{ltb-true, ltb-false}
use Rattle.std.proofs.lemmas.Option.{none-some, same_Some}
use lib.ListN.{length, get_or, take, drop}
use lib.Seq.{take-length}
use native.Mathlib.Nat.{zero-add}
use Rattle.std.specs.List.{list_any, list_all, position_or_len, enumerate_from, range_with_len}
use Rattle.std.proofs.Common.{Some, None}
use Rattle.std.proofs.lemmas.List.Folds.{list_any_more, list_all_more}
use Rattle.std.proofs.lemmas.List.FromFn.{length-enumerate_from, get_or-enumerate_from, length-range_with_len, get_or-range_with_len}
use Rattle.std.proofs.lemmas.List.{take_min, length-take-le, length-drop, get_or-take, get_or-drop}
use Rattle.conditions.specs.Below.{any, all, first}
use Rattle.conditions.proofs.Laws.Below.{all_same, by_cases}
use Rattle.book.specs.Found.{found}

-- `&xs[..n.min(m)]`
pub taken : {A : Type 0} (n m : ℕ) (xs : List A) → length xs ≡ m → take (min n m) xs ≡ take n xs
taken n m xs e = rw (← e) (take_min n xs)

pub any_rows : {A : Type 0} (p : A → Bool) (z : A) (n : ℕ) (xs : List A) → n ≤ length xs → list_any p (take n xs) ≡ any n (λ i. p (get_or xs i z))
unfolding any
any_rows p z zero xs h = refl
any_rows p z (suc n) xs h =
    let more = list_any_more p xs n z (omega arith) in
    rw add-one at more ∙ ap (λ (b : Bool). b || p (get_or xs n z)) (any_rows p z n xs (omega arith))

pub all_rows : {A : Type 0} (p : A → Bool) (z : A) (n : ℕ) (xs : List A) → n ≤ length xs → list_all p (take n xs) ≡ all n (λ i. p (get_or xs i z))
unfolding all
all_rows p z zero xs h = refl
all_rows p z (suc n) xs h =
    let more = list_all_more p xs n z (omega arith) in
    rw add-one at more ∙ ap (λ (b : Bool). b && p (get_or xs n z)) (all_rows p z n xs (omega arith))

-- `&xs[n..]`
pub to_the_end : {A : Type 0} (n m : ℕ) (xs : List A) → length xs ≡ m → take (m - n) (drop n xs) ≡ drop n xs
to_the_end n m xs long = ap (λ (k : ℕ). take (k - n) (drop n xs)) (sym long) ∙ ap (λ (k : ℕ). take k (drop n xs)) (sym (length-drop n xs)) ∙ take-length (drop n xs)

-- the rows from n on
pub all_past : {A : Type 0} (p : A → Bool) (z : A) (n : ℕ) (xs : List A) → list_all p (drop n xs) ≡ all (length xs - n) (λ i. p (get_or xs (n + i) z))
all_past p z n xs =
    ap (list_all p) (sym (take-length (drop n xs))) ∙ all_rows p z (length (drop n xs)) (drop n xs) (omega arith)
    ∙ ap (λ (k : ℕ). all k (λ i. p (get_or (drop n xs) i z))) (length-drop n xs) ∙ all_same (length xs - n) _ _ (λ i h. ap p (get_or-drop n xs i z))

pub first_row : {A : Type 0} (p : A → Bool) (z : A) (xs : List A) → position_or_len p xs ≡ first (length xs) (λ i. p (get_or xs i z))
unfolding first
first_row p z [] = refl
first_row p z (x ∷ xs) = at_head (p x) (first_row p z xs)
  where
    at_head : (b : Bool) {m n : ℕ} → m ≡ n → cond (not b) (1 + m) 0 ≡ cond b 0 (suc n)
    at_head true e = refl
    at_head false e = rw one-add (ap suc e)

-- the number of the first row that passes, or none
pub found_first : {A : Type 0} (p : A → Bool) (z : A) (xs : List A) {k : ℕ} → length xs ≡ k
    → cond (ltb (position_or_len p xs) (length xs)) (Some (position_or_len p xs)) None ≡ found k (first k (λ i. p (get_or xs i z)))
unfolding found
found_first p z xs {k} long = rw (first_row p z xs, long)

pub found_some : (w n : ℕ) {q : ℕ} → found w n ≡ Some q → (n ≡ q) × (n < w)
unfolding found
found_some w n {q} e =
    by_cases (ltb n w)
    (λ t. (same_Some n q (rw t at e), ltb-true n w t))
    (λ t. absurd (none-some q (rw t at e)))

pub found_none : (w n : ℕ) → found w n ≡ None → w ≤ n
unfolding found
found_none w n e = by_cases (ltb n w) (λ t. absurd (none-some n (sym (rw t at e)))) (λ t. ltb-false n w t)

-- ---- rows with their numbers beside them

pub any_same : (k : ℕ) (f g : ℕ → Bool) → ((i : ℕ) → i < k → f i ≡ g i) → any k f ≡ any k g
unfolding any
any_same zero f g e = refl
any_same (suc k) f g e = ap₂ ◌||◌ (any_same k f g (λ i h. e i (omega arith))) (e k (omega arith))

-- of the rows of `&xs[..n]`
pub any_taken : {A : Type 0} (p : ℕ → A → Bool) (z : A) (n : ℕ) (xs : List A) → n ≤ length xs → any (length (take n xs)) (λ i. p i (get_or (take n xs) i z)) ≡ any n (λ i. p i (get_or xs i z))
any_taken p z n xs h =
    ap (λ (k : ℕ). any k (λ i. p i (get_or (take n xs) i z))) (length-take-le n xs h) ∙ any_same n _ _ (λ i l. ap (p i) (get_or-take n xs i z l))

module _ {A : Type 0} (z : A) (n : ℕ) (xs : List A) (h : n ≤ length xs) where
  numbered : List (ℕ × A)
  numbered = enumerate_from 0 (take n xs)

  long : length numbered ≡ n
  unfolding numbered
  long = length-enumerate_from 0 (take n xs) ∙ length-take-le n xs h

  row : (i : ℕ) → i < n → get_or numbered i (0, z) ≡ (i, get_or xs i z)
  unfolding numbered
  row i l = get_or-enumerate_from 0 (take n xs) i (0, z) (omega (arith, length-take-le n xs h)) ∙ ap₂ (λ (k : ℕ) (x : A). (k, x)) (zero-add i) (get_or-take n xs i z l)

  all_of_them : take n numbered ≡ numbered
  all_of_them = ap (λ (k : ℕ). take k numbered) (sym long) ∙ take-length numbered

  pub any_numbered : (p : (ℕ × A) → Bool) → list_any p (enumerate_from 0 (take n xs)) ≡ any n (λ i. p (i, get_or xs i z))
  unfolding numbered
  any_numbered p =
      ap (list_any p) (sym all_of_them) ∙ any_rows p (0, z) n numbered (omega (arith, long)) ∙ any_same n _ _ (λ i l. ap p (row i l))

  pub all_numbered : (p : (ℕ × A) → Bool) → list_all p (enumerate_from 0 (take n xs)) ≡ all n (λ i. p (i, get_or xs i z))
  unfolding numbered
  all_numbered p =
      ap (list_all p) (sym all_of_them) ∙ all_rows p (0, z) n numbered (omega (arith, long)) ∙ all_same n _ _ (λ i l. ap p (row i l))

-- ---- the numbers themselves

pub any_range : (p : ℕ → Bool) (n : ℕ) → list_any p (range_with_len 0 n) ≡ any n p
any_range p n =
    let long = length-range_with_len 0 n in
    let them : take n (range_with_len 0 n) ≡ range_with_len 0 n = ap (λ (k : ℕ). take k (range_with_len 0 n)) (sym long) ∙ take-length (range_with_len 0 n) in
    ap (list_any p) (sym them) ∙ any_rows p 0 n (range_with_len 0 n) (omega (arith, long)) ∙ any_same n _ _ (λ i l. ap p (get_or-range_with_len 0 n i 0 l ∙ zero-add i))
