-- The fields of a line as the code puts them, and what playing an event gives once its line is put.
use Rattle.std.specs.Prelude.{◌≡◌, List, [], ◌∷◌, ℕ, ◌≤◌, length, Ok}
use Prim.Native.Char.{code}
use Rattle.conditions.specs.Text.{decimal, joined}
use Rattle.conditions.specs.Written.{written, Put}
use Rattle.book.specs.Answers.{Answer, answer_number}
use Rattle.sheet.specs.declared.lines.Line.{Line}
use Rattle.sheet.specs.declared.playing.Played.{Played}
use Rattle.sheet.specs.Lines.{longest_line}
use Rattle.sheet.specs.Play.{EventResult, result_line}

-- a field, after its space
abbrev pub field : List ℕ → List ℕ
field text = code " " ∷ text

-- the position and the answer number
abbrev pub head : ℕ → Answer → List ℕ
head position a = joined (code " ") (decimal position ∷ decimal (answer_number a) ∷ [])

-- the line of an event's result is at the start of a buffer that was l and is m, and r is what playing the event gave
pub record Plays (x : EventResult) (position : ℕ) (l : List ℕ) (r : Played) (m : List ℕ) : Type 0 where
  pub result : r ≡ record { written = Ok (length (result_line position x)); book = x.book }
  pub buffer : m ≡ written l 0 (result_line position x)

-- a text is put behind what the line has, into the buffer that it was lent
pub record Puts (before after : Line) (text : List ℕ) : Type 0 where
  pub put : Put before.buf.now after.buf.now before.end after.end text
  pub lent : after.buf.ghost_name ≡ before.buf.ghost_name
  pub long : length after.buf.now ≡ length before.buf.now

-- nothing of the line is written yet, and its buffer has room for any
pub record Blank (line : Line) : Type 0 where
  pub start : line.end ≡ 0
  pub room : longest_line ≤ length line.buf.now

-- the line of an event's result is put into the buffer that it was lent, and r is what playing the event gave
pub record PlaysLine (x : EventResult) (position : ℕ) (before : Line) (r : Played) (after : Line) : Type 0 where
  pub plays : Plays x position before.buf.now r after.buf.now
  pub lent : after.buf.ghost_name ≡ before.buf.ghost_name
