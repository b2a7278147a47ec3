-- A reader n times, as a loop goes that has read i times.
use mathlib.Core.Path.{◌≡◌, sym, ap, ◌∙◌}
use mathlib.Core.List.{List, [], ◌∷◌, ◌++◌, append_assoc}
use Prim.Native.Nat.{ℕ, suc, ◌+◌, ◌-◌, ◌≤◌, ◌<◌}
use native.Mathlib.Omega.{arith}
use lib.ListN.{length, take, set, replicate, length-append}
use lib.Seq.{set_at, take-append_seam}
use Rattle.std.proofs.lemmas.List.{take_all, take_more_set}
use Rattle.book.specs.declared.Opening.{Opening}
use Rattle.book.specs.Book.{most_items}
use Rattle.book.specs.Open.{no_opening}
use Rattle.sheet.specs.Readers.{Read, wrong, right, and_then, repeat, one_more}

module _ {A : Type 0} (reader : A → ℕ → List ℕ → Read A) (n i : ℕ) (x : A) (at : ℕ) (l : List ℕ) where
  pub repeat_more : i < n → repeat (n - i) reader x at l ≡ and_then (reader x at l) (repeat (n - (i + 1)) reader)
  unfolding repeat
  repeat_more h = let e : n - i ≡ suc (n - (i + 1)) = omega arith in rw e

  pub repeat_done : n ≤ i → repeat (n - i) reader x at l ≡ right x at l
  unfolding repeat
  repeat_done h = let e : n - i ≡ 0 = omega arith in rw e

-- ---- one more

module _ {A : Type 0} (reader : ℕ → List ℕ → Read A) (xs : List A) (at : ℕ) (l : List ℕ) where
  pub one_more-right : {x : A} {next : ℕ} {rest : List ℕ} → reader at l ≡ right x next rest → one_more reader xs at l ≡ right (xs ++ (x ∷ [])) next rest
  unfolding one_more
  one_more-right q = rw q

  pub one_more-wrong : {place : ℕ} → reader at l ≡ wrong place → one_more reader xs at l ≡ wrong place
  unfolding one_more
  one_more-wrong q = rw q

-- one more each time, where what was read stands in the first rows
module _ {A : Type 0} (reader : ℕ → List ℕ → Read A) (n i : ℕ) (rows : List A) (at : ℕ) (l : List ℕ) where
  pub rows_more : i < n → i < length rows → {x : A} {next : ℕ} {rest : List ℕ} → reader at l ≡ right x next rest
      → repeat (n - i) (one_more reader) (take i rows) at l ≡ repeat (n - (i + 1)) (one_more reader) (take (i + 1) (set rows i x)) next rest
  unfolding one_more
  rows_more h k {x} e = rw (repeat_more (one_more reader) n i (take i rows) at l h, e, take_more_set rows i x k)

  pub rows_read : (others : List A) → n ≤ i → length rows ≡ n → repeat (n - i) (one_more reader) (take i rows) at l ≡ right (take n (rows ++ others)) at l
  rows_read others h e =
      let all : take n (rows ++ others) ≡ rows = rw (sym e) (take-append_seam rows others) in
      repeat_done (one_more reader) n i (take i rows) at l h ∙ ap (λ (xs : List A). right xs at l) (take_all i rows (omega arith) ∙ sym all)

-- ---- items in rows

-- the first of them are read, and the other rows are blank
abbrev pub in_rows : List Opening → List Opening
in_rows xs = xs ++ replicate (most_items - length xs) no_opening

pub row_more : (xs : List Opening) (x : Opening) {i : ℕ} {rows : List Opening} → length xs ≡ i → i < most_items → rows ≡ in_rows xs
    → (length (xs ++ (x ∷ [])) ≡ i + 1) × (set rows i x ≡ in_rows (xs ++ (x ∷ [])))
row_more xs x {i} e h is =
    let long : length (xs ++ (x ∷ [])) ≡ i + 1 = length-append xs (x ∷ []) ∙ ap (λ (n : ℕ). n + 1) e in
    let more : most_items - length xs ≡ suc (most_items - length (xs ++ (x ∷ []))) = omega arith in (
      long,
      ap (λ (l : List Opening). set l i x) (is ∙ ap (λ (n : ℕ). xs ++ replicate n no_opening) more)
          ∙ set_at xs no_opening (replicate (most_items - length (xs ++ (x ∷ []))) no_opening) x i e
          ∙ sym (append_assoc xs (x ∷ []) (replicate (most_items - length (xs ++ (x ∷ []))) no_opening)),
    )
