-- As the code searches the places of a book.
use Rattle.std.specs.Prelude.{cond, ℕ, ltb, Option, Some, None}

-- what a search of w places finds, where q is the first that passes, or w where none does
unfoldable pub found : ℕ → ℕ → Option ℕ
found w q = cond (ltb q w) (Some q) None
