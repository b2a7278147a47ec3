-- Rows that are filled one after the other, each from a row of another table.
use mathlib.Core.Path.{◌≡◌, refl, ap, ◌∙◌}
use mathlib.Core.List.{List, [], ◌∷◌, ◌++◌, map}
use Prim.Native.Nat.{ℕ, zero, suc, ◌-◌, ◌<◌}
use native.Mathlib.Omega.{arith}
use lib.ListN.{length, get_or, take, drop, set, replicate}
use Rattle.std.proofs.lemmas.List.{drop-replicate}
use Rattle.std.proofs.Common.{append-nil}

-- the first i of them are filled
abbrev pub filled_upto : {A B : Type 0} → (A → B) → B → ℕ → ℕ → List A → List B
filled_upto f blank most i xs = map f (take i xs) ++ replicate (most - i) blank

module _ {A B : Type 0} (f : A → B) (blank : B) where
  fill-next : (xs : List A) (i left : ℕ) (d : A) → i < length xs
      → set (map f (take i xs) ++ replicate (suc left) blank) i (f (get_or xs i d)) ≡ map f (take (suc i) xs) ++ replicate left blank
  fill-next [] i left d h = absurd (omega arith)
  fill-next (x ∷ xs) zero left d h = refl
  fill-next (x ∷ xs) (suc i) left d h = ap (λ (l : List B). f x ∷ l) (fill-next xs i left d (omega arith))

  pub filled_more : (most : ℕ) (xs : List A) (i : ℕ) (d : A) {rows : List B} {y : B} → i < length xs → i < most → rows ≡ filled_upto f blank most i xs → y ≡ f (get_or xs i d)
      → set rows i y ≡ filled_upto f blank most (suc i) xs
  filled_more most xs i d {rows} {y} h k are is =
      let more : most - i ≡ suc (most - suc i) = omega arith in
      ap (λ (l : List B). set l i y) are ∙ ap (set (filled_upto f blank most i xs) i) is
      ∙ ap (λ (n : ℕ). set (map f (take i xs) ++ replicate n blank) i (f (get_or xs i d))) more ∙ fill-next xs i (most - suc i) d h

  -- the first n of them, and the rows past those
  pub filled_rest : (n most : ℕ) (xs : List A) → filled_upto f blank n n xs ++ drop n (replicate most blank) ≡ filled_upto f blank most n xs
  filled_rest n most xs =
      let none : n - n ≡ 0 = omega arith in
      ap (λ (k : ℕ). (map f (take n xs) ++ replicate k blank) ++ drop n (replicate most blank)) none
      ∙ ap (λ (l : List B). l ++ drop n (replicate most blank)) (append-nil (map f (take n xs))) ∙ ap (λ (l : List B). map f (take n xs) ++ l) (drop-replicate n most blank)
