-- "Forgetting. At the end of each accepted event, a decided transaction is closed, and its place freed, exactly when no district is on it and no held or pending
-- polyvalue depends on it." (document 01, Events)
use Rattle.std.specs.Prelude.{Bool, not, ◌||◌, cond, ℕ, eqb}
use Rattle.book.specs.declared.Open.{Open}
use Rattle.book.specs.declared.Book.{Book}
use Rattle.book.specs.Rows.{rows}
use Rattle.book.specs.Book.{no_open, some_depends, some_on, with_open}

-- "decision (0 none, 1 completed, 2 aborted)"
abbrev pub decided : Open → Bool
decided o = not (eqb o.decision 0)

-- the transaction at place q has a district on it or a polyvalue that depends on it
unfoldable pub needed : ℕ → Book → ℕ → Open → Bool
needed w b q o = some_on b o.number.0 || some_depends w b q

-- it stays open: it is undecided, or it is needed
unfoldable pub kept : ℕ → Book → ℕ → Open → Bool
kept w b q o = not (decided o) || needed w b q o

-- its place after forgetting
unfoldable pub remembered : ℕ → Book → ℕ → Open → Open
remembered w b q o = cond (kept w b q o) o no_open

-- the book with each such place freed
unfoldable pub forget : ℕ → Book → Book
forget w b = with_open b (rows (remembered w b) w b.«open»)
