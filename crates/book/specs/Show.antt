-- "Show one item's held pairs." (document 01, Events) "The line that show writes into its buffer runs from the count of pairs on, without a line end" (The sheet and the program)
use Rattle.std.specs.Prelude.{not, cond, List, [], ◌∷◌, ℕ, ltb, length, get_or, Result, Ok, Err}
use Rattle.std.specs.Result.{result_and}
use Rattle.conditions.specs.Written.{room, written}
use Rattle.polyvalues.specs.declared.polyvalue.Polyvalue.{Polyvalue}
use Rattle.polyvalues.specs.Text.{line_text}
use Rattle.polyvalues.specs.Polyvalues.{in_use}
use Rattle.book.specs.declared.Refusal.{Refusal}
use Rattle.book.specs.declared.Refusal.TheVariants.{NoItem, Unsound, ShortBuffer}
use Rattle.book.specs.declared.Book.{Book}
use Rattle.book.specs.declared.Open.{Open}
use Rattle.book.specs.Answers.{Answer, accepted, first_of}
use Rattle.book.specs.Book.{no_open, item_at}
use Rattle.book.specs.Transactions.{unsound}

-- "Tags print .. as T and the transaction number": the number of the transaction at place q
abbrev pub tag_number : List Open → ℕ → ℕ
tag_number places q = (get_or places q no_open).number.0

-- the line of a polyvalue, where these transactions are open: the count of its pairs, and each pair
abbrev pub line_of : ℕ → Polyvalue → List Open → List ℕ
line_of w p places = line_text w (tag_number places) (in_use p)

-- the line of the item's held pairs
unfoldable pub held_line : ℕ → Book → ℕ → List ℕ
held_line w b i = line_of w (item_at b i).held b.«open»

-- what is answered of a line, for this buffer, where nothing else is against it
abbrev pub line_shown : List ℕ → List ℕ → Result ℕ Refusal
line_shown buf line = cond (room buf 0 line) (Ok (length line)) (Err ShortBuffer)

-- 15, then "Show: 2, 16": "text buffer shorter than the line"
unfoldable pub show_answer : ℕ → Book → ℕ → List ℕ → Answer
show_answer w b i buf =
    first_of (
    (unsound w b, Unsound)
    ∷ (not (ltb i b.count), NoItem)
    ∷ (not (room buf 0 (held_line w b i)), ShortBuffer)
    ∷ []
    )

-- the buffer afterwards: "An accepted write changes only the bytes written, from the buffer's start." A refused one leaves it as it was.
unfoldable pub shown : ℕ → Book → ℕ → List ℕ → List ℕ
shown w b i buf = let new : List ℕ = written buf 0 (held_line w b i) in cond (accepted (show_answer w b i buf)) new buf

-- the call: where the line ends, so that a caller can go on behind it, or the refusal
unfoldable pub show : ℕ → Book → ℕ → List ℕ → Result ℕ Refusal
show w b i buf = result_and (show_answer w b i buf) (Ok (length (held_line w b i)))
