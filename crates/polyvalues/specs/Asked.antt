-- "A lent list of pairs can be asked for its value under one assignment." (document 01, The book) The document's number of the answer.
use Rattle.std.specs.Prelude.{Option, Some, None, ℕ, ℤ}

-- the document's number for each answer: 0 accepted, "It refuses (2)"
abbrev pub asked_number : Option ℤ → ℕ
asked_number (Some v) = 0
asked_number None = 2
