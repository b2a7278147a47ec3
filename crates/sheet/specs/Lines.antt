-- "A refused sheet prints only `sheet`, number, place. Otherwise each event prints its position from 1 and the answer number; after it an accepted begin prints number and
-- grant, an accepted show the count of pairs and each `value:condition`. Fields stand one space apart." (document 01, The sheet and the program)
-- A text is the list of its bytes.
use Rattle.std.specs.Prelude.{Bool, cond, List, [], ◌∷◌, ◌++◌, ℕ, ◌+◌, leb, length, Result, Ok, Err}
use Prim.Native.Char.{code}
use Rattle.conditions.specs.declared.text.NoRoom.{NoRoom}
use Rattle.conditions.specs.Text.{bytes, decimal, joined}
use Rattle.conditions.specs.Written.{no_room, written}
use Rattle.book.specs.Answers.{Answer, answer_number, accepted}

-- a line: its fields, one space apart, and a line feed
unfoldable pub line : List (List ℕ) → List ℕ
line fields = joined (code " ") fields ++ bytes "\n"

-- the line of an event: its position, the answer number, and what an accepted one prints after it
unfoldable pub event_line : ℕ → Answer → List (List ℕ) → List ℕ
event_line position a more = line (decimal position ∷ decimal (answer_number a) ∷ cond (accepted a) more [])

-- the line of a refused sheet
unfoldable pub refusal_line : Answer → ℕ → List ℕ
refusal_line a place = line (bytes "sheet" ∷ decimal (answer_number a) ∷ decimal place ∷ [])

-- the last line
unfoldable pub end_line : List ℕ
end_line = line (bytes "end" ∷ [])

-- ---- a line in a lent buffer

-- "the program lends it 65,536 bytes": what show is lent
abbrev pub lent_room : ℕ
lent_room = 65536

-- the longest line that there can be: a position of 20 digits, the answer number between spaces, what show was lent, and a line feed
abbrev pub longest_line : ℕ
longest_line = 20 + 3 + lent_room + 1

-- a lent buffer has room for any line; any other is too short
abbrev pub roomy : List ℕ → Bool
roomy buf = leb longest_line (length buf)

-- what is answered of a line that is written at the buffer's start: where it ends
unfoldable pub line_answer : List ℕ → List ℕ → Result ℕ NoRoom
line_answer buf text = cond (roomy buf) (Ok (length text)) (Err no_room)

-- the buffer afterwards: a buffer that is too short is as it was
unfoldable pub line_written : List ℕ → List ℕ → List ℕ
line_written buf text = cond (roomy buf) (written buf 0 text) buf
