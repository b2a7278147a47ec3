-- The readers of bytes, words and parts at a place of a sheet s, as the code tests it.
use mathlib.Core.Path.{◌≡◌, refl, sym, ap, ◌∙◌}
use mathlib.Core.Bool.{Bool, true, false, cond}
use mathlib.Core.List.{List, [], ◌∷◌}
use Prim.Native.Nat.{ℕ, ◌+◌, ◌-◌, ◌*◌, ◌^◌, ◌≤◌, ◌<◌}
use native.Mathlib.Numerals.{add-one}
use native.Mathlib.Omega.{arith}
use lib.Dec.{leb, ltb}
use lib.IntN.{ℤ}
use lib.ListN.{length, get_or, take, drop, length-drop, drop_of_length-le}
use lib.Seq.{drop-cons, drop-drop}
use borrow.Author.Tests.{le-leb, lt-leb}
use Rattle.conditions.proofs.Laws.Below.{by_cases}
use Rattle.polyvalues.specs.Values.{in_range, signed}
use Rattle.sheet.specs.Readers.{Read, wrong, right, and_then, byte, word, part, end, any}
use Rattle.sheet.specs.Sections.{code, value}
use Rattle.sheet.proofs.Laws.Open.{no_read}

-- ---- a byte

-- where no byte is, none passes a test
module _ (test : ℕ → Bool) (at : ℕ) where
  pub no_byte : (l : List ℕ) {place : ℕ} → byte any at l ≡ wrong place → byte test at l ≡ wrong place
  unfolding byte
  no_byte [] e = e
  no_byte (b ∷ l) e = no_read (sym e)

-- a byte that has to pass a test is any byte, and then the test
pub tested_byte : (test : ℕ → Bool) (at : ℕ) (l : List ℕ) → byte test at l ≡ and_then (byte any at l) (λ b next rest. cond (test b) (right b next rest) (wrong at))
unfolding byte
tested_byte test at [] = refl
tested_byte test at (b ∷ l) = refl

-- a district code
pub code_of : (last at : ℕ) (l : List ℕ) → code last at l ≡ and_then (byte any at l) (λ c next rest. cond (ltb last c) (right c next rest) (wrong at))
unfolding code
code_of last at l = tested_byte (λ c. ltb last c) at l

-- the byte at a place
drop-one : (s : List ℕ) (at : ℕ) → at < length s → drop at s ≡ get_or s at 0 ∷ drop (at + 1) s
drop-one s at h = rw add-one (drop-cons s at 0 h)

module _ (s : List ℕ) (at : ℕ) where
  pub byte_past : length s ≤ at → byte any at (drop at s) ≡ wrong at
  unfolding byte
  byte_past h = rw (drop_of_length-le s h)

  pub byte_there : at < length s → byte any at (drop at s) ≡ right (get_or s at 0) (at + 1) (drop (at + 1) s)
  unfolding byte
  byte_there h = rw (drop-one s at h)

-- ---- a word

drop-two : (s : List ℕ) (at : ℕ) → 2 ≤ length s - at → drop at s ≡ get_or s at 0 ∷ get_or s (at + 1) 0 ∷ drop (at + 2) s
drop-two s at h =
    let e : at + 1 + 1 ≡ at + 2 = omega arith in
    drop-one s at (omega arith) ∙ ap (λ (l : List ℕ). get_or s at 0 ∷ l) (rw e at (drop-one s (at + 1) (omega arith)))

-- the number that the two bytes at a place are
abbrev pub word_at : List ℕ → ℕ → ℕ
word_at s at = get_or s at 0 * 2 ^ 8 + get_or s (at + 1) 0

module _ (test : ℕ → Bool) (s : List ℕ) (at : ℕ) (h : 2 ≤ length s - at) where
  pub word_good : test (word_at s at) ≡ true → word test at (drop at s) ≡ right (word_at s at) (at + 2) (drop (at + 2) s)
  unfolding word
  word_good e = rw (drop-two s at h, e)

-- ---- two bytes

pub two_bytes : (at : ℕ) (l : List ℕ) → word any at l ≡ and_then (byte any at l) (λ high at l. and_then (byte any at l) (λ low at l. right (high * 2 ^ 8 + low) at l))
unfolding word byte
two_bytes at [] = refl
two_bytes at (high ∷ []) = refl
two_bytes at (high ∷ low ∷ l) = ap (λ (i : ℕ). right (high * 2 ^ 8 + low) i l) (omega arith)

-- a number that has to pass a test is any number, and then the test
tested_word : (test : ℕ → Bool) (at : ℕ) (l : List ℕ) → word test at l ≡ and_then (word any at l) (λ n next rest. cond (test n) (right n next rest) (wrong at))
unfolding word
tested_word test at [] = refl
tested_word test at (high ∷ []) = refl
tested_word test at (high ∷ low ∷ l) = refl

-- ---- a value

-- the value that two bytes are, where it is one
abbrev pub value_if : ℕ → ℤ → ℕ → List ℕ → Read ℤ
value_if at v next rest = cond (in_range v) (right v next rest) (wrong at)

pub value_of : (at : ℕ) (l : List ℕ) → value at l ≡ and_then (word any at l) (λ n next rest. value_if at (signed n) next rest)
unfolding value
value_of at l = rw (tested_word (λ n. in_range (signed n)) at l) (go (word any at l))
  where
    go : (r : Read ℕ) → and_then (and_then r (λ n next rest. cond (in_range (signed n)) (right n next rest) (wrong at))) (λ n at s. right (signed n) at s)
        ≡ and_then r (λ n next rest. value_if at (signed n) next rest)
    go (wrong place) = refl
    go (right n next rest) = by_cases (in_range (signed n)) (λ t. rw t) (λ t. rw t)

-- ---- a part, and the end

module _ (s : List ℕ) (at : ℕ) where
  module _ (n : ℕ) {left : ℕ} (is : left ≡ length s - at) where
    pub part_good : n ≤ left → part n at (drop at s) ≡ right (take n (drop at s)) (at + n) (drop (at + n) s)
    unfolding part
    part_good h =
        let e : leb n (length (drop at s)) ≡ true = le-leb n (length (drop at s)) (simp length-drop (omega arith)) in
        rw (e, drop-drop n at s)

    pub part_short : left < n → part n at (drop at s) ≡ wrong (at + left)
    unfolding part
    part_short h =
        let e : leb n (length (drop at s)) ≡ false = lt-leb n (length (drop at s)) (simp length-drop (omega arith)) in
        rw (e, length-drop at s, is)

  module _ {A : Type 0} (x : A) where
    pub end_past : length s ≤ at → end x at (drop at s) ≡ right x at (drop at s)
    unfolding end
    end_past h = rw (drop_of_length-le s h)

    pub end_left : at < length s → end x at (drop at s) ≡ wrong at
    unfolding end
    end_left h = rw (drop-one s at h)
