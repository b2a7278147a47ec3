-- The test that a polyvalue is well formed, as the code makes it: one row after the other.
use Rattle.std.specs.Prelude.{Bool, not, ◌&&◌, List, [], ◌∷◌, ℕ, eqb, ℤ, negsuc}
use Rattle.conditions.specs.Conditions.{full, union, intersection, empty}
use Rattle.polyvalues.specs.declared.polyvalue.Pair.{Pair}
use Rattle.polyvalues.specs.Values.{in_range, below}
use Rattle.polyvalues.specs.Pairs.{assignments}

-- −10,000 is below every value
abbrev pub below_all : ℤ
below_all = negsuc 9999

-- the row may follow one of value v, where s is covered: its value is higher and in range, its condition is not empty and apart from s
abbrev pub row_fits : ℕ → ℤ → ℕ → Pair → Bool
row_fits w v s p = below v p.value && in_range p.value && not (empty w (assignments p)) && empty w (intersection w s (assignments p))

-- each row may follow the one before it, and in the end all is covered
unfoldable pub checked_from : ℕ → ℤ → ℕ → List Pair → Bool
checked_from w v s [] = eqb s (full w)
checked_from w v s (p ∷ ps) = row_fits w v s p && checked_from w p.value (union w s (assignments p)) ps
