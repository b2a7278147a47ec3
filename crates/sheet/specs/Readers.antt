-- "13 gives the place of the first wrong byte in reading order (a value out of range: its first byte), or the sheet's length if it ends early (also inside a value), or the
-- first byte left over." (document 01, The sheet and the program) A reader is handed a place of the sheet and the bytes from there on.
use Rattle.std.specs.Prelude.{Bool, true, ◌&&◌, cond, List, [], ◌∷◌, ◌++◌, ℕ, zero, suc, ◌+◌, ◌*◌, ◌^◌, leb, length, take, drop}

-- what a reader answers: the place that 13 gives, or what it read, the place behind it and the bytes from there on
pub data Read (A : Type 0) : Type 0 where
  wrong : ℕ → Read A
  right : A → ℕ → List ℕ → Read A

-- "in reading order": one reader, and then another from where it stopped
abbrev pub and_then : {A B : Type 0} → Read A → (A → ℕ → List ℕ → Read B) → Read B
and_then (wrong place) more = wrong place
and_then (right x at s) more = more x at s

-- the same reader n times, each time handed what was read before
unfoldable pub repeat : {A : Type 0} → ℕ → (A → ℕ → List ℕ → Read A) → A → ℕ → List ℕ → Read A
repeat zero reader x at s = right x at s
repeat (suc n) reader x at s = and_then (reader x at s) (repeat n reader)

-- one more of what a reader reads, behind those that were read before
unfoldable pub one_more : {A : Type 0} → (ℕ → List ℕ → Read A) → List A → ℕ → List ℕ → Read (List A)
one_more reader xs at s = and_then (reader at s) (λ x at s. right (xs ++ (x ∷ [])) at s)

-- a byte that passes a test: a wrong one is at its own place
unfoldable pub byte : (ℕ → Bool) → ℕ → List ℕ → Read ℕ
byte test at [] = wrong at
byte test at (b ∷ s) = cond (test b) (right b (at + 1) s) (wrong at)

-- two bytes, high first, that are a number which passes a test: a wrong one is at its first byte, and a sheet that ends inside is wrong at its end
unfoldable pub word : (ℕ → Bool) → ℕ → List ℕ → Read ℕ
word test at [] = wrong at
word test at (high ∷ []) = wrong (at + 1)
word test at (high ∷ low ∷ s) = let n : ℕ = high * 2 ^ 8 + low in cond (test n) (right n (at + 2) s) (wrong at)

-- n bytes, whatever they are: where fewer are left, the sheet ends early
unfoldable pub part : ℕ → ℕ → List ℕ → Read (List ℕ)
part n at s = cond (leb n (length s)) (right (take n s) (at + n) (drop n s)) (wrong (at + length s))

-- "or the first byte left over": all was read
unfoldable pub end : {A : Type 0} → A → ℕ → List ℕ → Read A
end x at [] = right x at []
end x at (b ∷ s) = wrong at

-- ---- tests

-- what the reader does not judge
abbrev pub any : ℕ → Bool
any n = true

-- from the lowest to the highest
abbrev pub between : ℕ → ℕ → ℕ → Bool
between low high n = leb low n && leb n high
