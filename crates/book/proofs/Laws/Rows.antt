-- The first n rows changed, row by row: what a loop has done before row n, and what each row is afterwards.
use mathlib.Core.Path.{◌≡◌, refl, sym, ◌∙◌, ap, ap₂}
use mathlib.Core.Bool.{cond}
use mathlib.Core.List.{List, [], ◌∷◌, ◌++◌, map}
use Prim.Native.Nat.{ℕ, zero, suc, ◌+◌, ◌-◌, ◌≤◌, ◌<◌}
use native.Mathlib.Omega.{arith}
use lib.Dec.{eqb, ltb}
use lib.ListN.{length, get_or, set, replicate, length-map, get_or-replicate}
use lib.Seq.{get_or-append-add, get_or-set_same, get_or-set_other}
use borrow.Author.Tests.{eqb-true, eqb-false, ltb-true, ltb-false}
use Rattle.conditions.proofs.Laws.Below.{by_cases}
use Rattle.book.specs.Rows.{rows_from, rows}

module _ {A : Type 0} (f : ℕ → A → A) (z : A) where
  shift : (k i : ℕ) (x : A) → f (suc k + i) x ≡ f (k + suc i) x
  shift k i x = let e : suc k + i ≡ k + suc i = omega arith in ap (λ (m : ℕ). f m x) e

  start : (k : ℕ) (x : A) → f k x ≡ f (k + 0) x
  start k x = let e : k ≡ k + 0 = omega arith in ap (λ (m : ℕ). f m x) e

  length_from : (k n : ℕ) (xs : List A) → length (rows_from k f n xs) ≡ length xs
  unfolding rows_from
  length_from k zero xs = refl
  length_from k (suc n) [] = refl
  length_from k (suc n) (x ∷ xs) = ap suc (length_from (suc k) n xs)

  get_or-from : (k n : ℕ) (xs : List A) (i : ℕ) → i < n → i < length xs → get_or (rows_from k f n xs) i z ≡ f (k + i) (get_or xs i z)
  unfolding rows_from
  get_or-from k zero xs i h l = absurd (omega arith)
  get_or-from k (suc n) [] i h l = absurd (omega arith)
  get_or-from k (suc n) (x ∷ xs) zero h l = start k x
  get_or-from k (suc n) (x ∷ xs) (suc i) h l = get_or-from (suc k) n xs i (omega arith) (omega arith) ∙ shift k i (get_or xs i z)

  past-from : (k n : ℕ) (xs : List A) (i : ℕ) → n ≤ i → get_or (rows_from k f n xs) i z ≡ get_or xs i z
  unfolding rows_from
  past-from k zero xs i h = refl
  past-from k (suc n) [] i h = refl
  past-from k (suc n) (x ∷ xs) zero h = absurd (omega arith)
  past-from k (suc n) (x ∷ xs) (suc i) h = past-from (suc k) n xs i (omega arith)

  set-from : (k n : ℕ) (xs : List A) → n < length xs → set (rows_from k f n xs) n (f (k + n) (get_or xs n z)) ≡ rows_from k f (suc n) xs
  unfolding rows_from
  set-from k n [] h = absurd (omega arith)
  set-from k zero (x ∷ xs) h = ap (λ (y : A). y ∷ xs) (sym (start k x))
  set-from k (suc n) (x ∷ xs) h =
      ap (λ (y : A). f k x ∷ set (rows_from (suc k) f n xs) n y) (sym (shift k n (get_or xs n z)))
      ∙ ap (λ (l : List A). f k x ∷ l) (set-from (suc k) n xs (omega arith))

  same_from : (k n : ℕ) (xs : List A) → ((i : ℕ) → i < n → i < length xs → f (k + i) (get_or xs i z) ≡ get_or xs i z) → rows_from k f n xs ≡ xs
  unfolding rows_from
  same_from k zero xs e = refl
  same_from k (suc n) [] e = refl
  same_from k (suc n) (x ∷ xs) e =
      ap₂ ◌∷◌ (start k x ∙ e 0 (omega arith) (omega arith)) (same_from (suc k) n xs (λ i h l. shift k i (get_or xs i z) ∙ e (suc i) (omega arith) (omega arith)))

  set_else : (k n : ℕ) (xs : List A) (i : ℕ) (y : A) → i < n → ((j : ℕ) → j < n → j < length xs → f (k + j) (get_or xs j z) ≡ get_or xs j z)
      → rows_from k f n (set xs i y) ≡ set xs i (f (k + i) y)
  unfolding rows_from
  set_else k zero xs i y h e = absurd (omega arith)
  set_else k (suc n) [] i y h e = refl
  set_else k (suc n) (x ∷ xs) zero y h e = ap₂ ◌∷◌ (start k y) (same_from (suc k) n xs (λ j l m. shift k j (get_or xs j z) ∙ e (suc j) (omega arith) (omega arith)))
  set_else k (suc n) (x ∷ xs) (suc i) y h e =
      ap₂ ◌∷◌ (start k x ∙ e 0 (omega arith) (omega arith))
      (set_else (suc k) n xs i y (omega arith) (λ j l m. shift k j (get_or xs j z) ∙ e (suc j) (omega arith) (omega arith)) ∙ ap (set xs i) (shift k i y))

  here : (i : ℕ) (x : A) → f (0 + i) x ≡ f i x
  here i x = let e : 0 + i ≡ i = omega arith in ap (λ (m : ℕ). f m x) e

  pub length-rows : (n : ℕ) (xs : List A) → length (rows f n xs) ≡ length xs
  length-rows n xs = length_from 0 n xs

  -- a row below n
  pub get_or-rows : (n : ℕ) (xs : List A) (i : ℕ) → i < n → i < length xs → get_or (rows f n xs) i z ≡ f i (get_or xs i z)
  get_or-rows n xs i h l = get_or-from 0 n xs i h l ∙ here i (get_or xs i z)

  -- a row from n on
  pub past-rows : (n : ℕ) (xs : List A) (i : ℕ) → n ≤ i → get_or (rows f n xs) i z ≡ get_or xs i z
  past-rows n xs i h = past-from 0 n xs i h

  -- what holds of each row and of each changed one holds of each row afterwards
  pub each_row : (P : A → Type 0) (n m : ℕ) (xs : List A) → m ≤ length xs → ((i : ℕ) → i < m → P (get_or xs i z))
      → ((i : ℕ) → i < n → P (f i (get_or xs i z))) → (i : ℕ) → i < m → P (get_or (rows f n xs) i z)
  each_row P n m xs l each changed i h =
      by_cases (ltb i n)
      (λ k. rw (get_or-rows n xs i (ltb-true i n k) (omega arith)) (changed i (ltb-true i n k)))
      (λ k. rw (past-rows n xs i (ltb-false i n k)) (each i h))

  -- one turn of a loop
  pub set-rows : (n : ℕ) (xs : List A) → n < length xs → set (rows f n xs) n (f n (get_or xs n z)) ≡ rows f (suc n) xs
  set-rows n xs h = ap (λ (y : A). set (rows f n xs) n y) (sym (here n (get_or xs n z))) ∙ set-from 0 n xs h

  -- a change that changes nothing
  pub rows_same : (n : ℕ) (xs : List A) → ((i : ℕ) → i < n → f i (get_or xs i z) ≡ get_or xs i z) → rows f n xs ≡ xs
  rows_same n xs e = same_from 0 n xs (λ i h l. here i (get_or xs i z) ∙ e i h)

  -- one that changes nothing, of a table where a row is set, changes only that row
  pub rows-set : (n : ℕ) (xs : List A) (i : ℕ) (y : A) → i < n → ((j : ℕ) → j < n → f j (get_or xs j z) ≡ get_or xs j z) → rows f n (set xs i y) ≡ set xs i (f i y)
  rows-set n xs i y h e = set_else 0 n xs i y h (λ j l m. here j (get_or xs j z) ∙ e j l) ∙ ap (set xs i) (here i y)

-- a row of a table that is made of a list, and then padded
pub made_row : {A B : Type 0} (f : A → B) (xs : List A) (past : List B) (x : A) (y : B) (i : ℕ) → i < length xs → get_or (map f xs ++ past) i y ≡ f (get_or xs i x)
made_row f [] past x y i h = absurd (omega arith)
made_row f (a ∷ xs) past x y zero h = refl
made_row f (a ∷ xs) past x y (suc i) h = made_row f xs past x y i (omega arith)

pub padded-row : {A B : Type 0} (f : A → B) (xs : List A) (n : ℕ) (z y : B) (i : ℕ) → length xs ≤ i → i < length xs + n → get_or (map f xs ++ replicate n z) i y ≡ z
padded-row f xs n z y i l h =
    let e : i ≡ length (map f xs) + (i - length xs) = omega (arith, length-map xs f) in
    ap (λ (m : ℕ). get_or (map f xs ++ replicate n z) m y) e ∙ get_or-append-add (map f xs) (replicate n z) (i - length xs) y ∙ get_or-replicate n (i - length xs) z y (omega arith)

-- a row after one row is set
pub get_or-set : {A : Type 0} (xs : List A) (i : ℕ) (x z : A) (j : ℕ) → i < length xs → get_or (set xs i x) j z ≡ cond (eqb j i) x (get_or xs j z)
get_or-set xs i x z j h =
    by_cases (eqb j i)
    (λ e. rw (e, eqb-true j i e) (get_or-set_same xs i x z h))
    (λ e. rw e (get_or-set_other xs i j x z (eqb-false j i e)))
