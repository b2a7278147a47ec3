-- "An accepted show [prints] the count of pairs and each `value:condition`. Fields stand one space apart; values are decimal, with `-` below zero. The line that show
-- writes into its buffer runs from the count of pairs on, without a line end." (document 01, The sheet and the program) A text is the list of its bytes.
use Rattle.std.specs.Prelude.{◌≡◌, List, ◌++◌, map, ℕ, length}
use Prim.Native.Char.{code}
use Rattle.conditions.specs.Text.{bytes, decimal, prefixed, condition_text}
use Rattle.conditions.specs.Written.{Put}
use Rattle.polyvalues.specs.declared.polyvalue.Pair.{Pair}
use Rattle.polyvalues.specs.declared.text.Line.{Line}
use Rattle.polyvalues.specs.Values.{value_text}
use Rattle.polyvalues.specs.Pairs.{assignments}

-- a pair of w places, where place i has the transaction number n i
unfoldable pub pair_text : ℕ → (ℕ → ℕ) → Pair → List ℕ
pair_text w n p = value_text p.value ++ bytes ":" ++ condition_text w n (assignments p)

-- the line: the count of pairs, and each pair after a space
unfoldable pub line_text : ℕ → (ℕ → ℕ) → List Pair → List ℕ
line_text w n ps = decimal (length ps) ++ prefixed (code " ") (map (pair_text w n) ps)

-- a text is put into a line, which goes on lending the same buffer
pub record Puts (before after : Line) (text : List ℕ) : Type 0 where
  pub put : Put before.buf.now after.buf.now before.end after.end text
  pub lent : after.buf.ghost_name ≡ before.buf.ghost_name
