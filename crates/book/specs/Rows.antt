-- What an event does to each of the first n rows of a table, from row 0 on, one after the other: as a loop does it. The rows past them stay as they are.
use Rattle.std.specs.Prelude.{List, [], ◌∷◌, ℕ, zero, suc}

-- f k, f (k + 1), .. on the first n rows
unfoldable pub rows_from : {A : Type 0} → ℕ → (ℕ → A → A) → ℕ → List A → List A
rows_from k f zero xs = xs
rows_from k f (suc n) [] = []
rows_from k f (suc n) (x ∷ xs) = f k x ∷ rows_from (suc k) f n xs

-- f of its number on each of the first n rows
abbrev pub rows : {A : Type 0} → (ℕ → A → A) → ℕ → List A → List A
rows f n xs = rows_from 0 f n xs
