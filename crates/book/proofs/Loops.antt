-- One turn of a loop that changes each row of a table, or each item of a book where it lies, or gathers a set from them, one after the other.
use mathlib.Core.Path.{◌≡◌, refl, ap, ap₂, ◌∙◌}
use mathlib.Core.Bool.{Bool, ◌||◌}
use mathlib.Core.List.{List, [], ◌∷◌, ◌++◌}
use Prim.Native.Nat.{ℕ, zero, suc, ◌+◌, ◌<◌}
use native.Mathlib.Numerals.{add-one}
use native.Mathlib.Omega.{arith}
use lib.ListN.{length, get_or, set, take, drop}
use Rattle.conditions.specs.Below.{any}
use Rattle.conditions.specs.Sets.{member}
use Rattle.conditions.proofs.Laws.Sets.{member-none}
use Rattle.book.specs.declared.Book.{Book}
use Rattle.book.specs.declared.Item.{Item}
use Rattle.book.specs.Rows.{rows_from, rows}
use Rattle.book.specs.Book.{most_items, void_item, item_at, with_items}
use Rattle.book.proofs.Known.{Held, items-long}
use Rattle.book.proofs.Laws.Rows.{past-rows, set-rows}

-- row n of the table so far is the one that stood there, and is then changed
pub turn : {A : Type 0} (f : ℕ → A → A) (z : A) (n : ℕ) (xs now : List A) (y : A) → n < length xs
    → now ≡ rows f n xs → y ≡ f n (get_or now n z) → set now n y ≡ rows f (n + 1) xs
turn {A} f z n xs now y h e d =
    let row : y ≡ f n (get_or xs n z) = d ∙ ap (λ (l : List A). f n (get_or l n z)) e ∙ ap (f n) (past-rows f z n xs n (omega arith)) in
    rw add-one (ap₂ (λ (l : List A) (x : A). set l n x) e row ∙ set-rows f z n xs h)

rows_from-taken : {A : Type 0} (f : ℕ → A → A) (k n : ℕ) (xs : List A) → rows_from k f n (take n xs) ++ drop n xs ≡ rows_from k f n xs
unfolding rows_from
rows_from-taken f k zero xs = refl
rows_from-taken f k (suc n) [] = refl
rows_from-taken {A} f k (suc n) (x ∷ xs) = ap (λ (l : List A). f k x ∷ l) (rows_from-taken f (suc k) n xs)

-- the first n rows alone are changed
pub rows-taken : {A : Type 0} (f : ℕ → A → A) (n : ℕ) (xs : List A) → rows f n (take n xs) ++ drop n xs ≡ rows f n xs
rows-taken f n xs = rows_from-taken f 0 n xs

module _ (f : ℕ → Item → Item) (was : Book) {now : Book} (i : ℕ) (so_far : now ≡ with_items was (rows f i was.items)) where
  -- item i is still the one that stood there, and is then changed
  pub item-turn : Held was → i < most_items → {y : Item} → y ≡ f i (item_at now i) → with_items now (set now.items i y) ≡ with_items was (rows f (i + 1) was.items)
  item-turn held h {y} e =
      let items = turn f void_item i was.items now.items y (omega (arith, items-long held)) (ap (λ (b : Book). b.items) so_far) e in
      λ k. with_items (so_far k) (items k)

-- of the numbers below k, the set s has those that an item before i passes a test with
abbrev pub Gathered : ℕ → (ℕ → ℕ → Bool) → ℕ → ℕ → Type 0
Gathered k f i s = (n : ℕ) → n < k → member s n ≡ any i (λ j. f j n)

pub gathered_none : (k : ℕ) (f : ℕ → ℕ → Bool) → Gathered k f 0 0
unfolding any
gathered_none k f n h = member-none n

pub gathered-more : (k : ℕ) (f : ℕ → ℕ → Bool) (i s r : ℕ) → Gathered k f i s → ((n : ℕ) → n < k → member r n ≡ (member s n || f i n)) → Gathered k f (i + 1) r
unfolding any
gathered-more k f i s r e g n h = rw add-one (g n h ∙ ap (λ (m : Bool). m || f i n) (e n h))
