-- "An assignment says completed or aborted for each of the 6 places" (document 01, The book): of w places, a set of those completed, a number below 2 ^ w.
use Rattle.std.specs.Prelude.{Bool, cond, ℕ, eqb}
use Rattle.conditions.specs.Sets.{member, set_of}

-- how many tag places there are: "Up to 6 transactions are open at once". Every definition takes it as w; it is said here alone.
abbrev pub places : ℕ
places = 6

-- "the old one with that place set to the outcome": the assignment a with place i completed (true) or aborted (false).
-- An assignment of w places has no place i from w on: there it stays as it was.
unfoldable pub with_place : ℕ → ℕ → ℕ → Bool → ℕ
with_place w a i b = set_of w (λ j. cond (eqb j i) b (member a j))
