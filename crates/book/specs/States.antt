-- A step's kind, a program and a state as the code keeps them, in rows. Any kind, any count and any rows may be handed in.
use Rattle.std.specs.Prelude.{◌≡◌, ◌&&◌, cond, List, [], ◌∷◌, ◌++◌, ℕ, zero, suc, ◌-◌, eqb, leb, ℤ, pos, length, get_or, take, replicate, Option, Some, None, Result, Ok, Err, MatchResult, false}
use Rattle.polyvalues.specs.Values.{in_range}
use Rattle.book.specs.declared.Step.{Step}
use Rattle.book.specs.declared.program.Program.{Program}
use Rattle.book.specs.declared.state.Value.{Value}
use Rattle.book.specs.declared.state.State.{State}
use Rattle.book.specs.declared.steps.Kind.{Kind}
use Rattle.book.specs.declared.steps.Kind.TheVariants.{Need, Add, Set, Copy}
use Rattle.book.specs.declared.steps.UnknownKind.{UnknownKind}
use Rattle.book.specs.declared.program.Declined.{Declined}
use Rattle.book.specs.Book.{most_items}
use Rattle.book.specs.Programs.{takes, declines, after, declined}
use Rattle.book.specs.Begin.{most_steps}

-- ---- a kind

-- the number of a kind
abbrev pub kind_number : Kind → ℕ
kind_number Need = 1
kind_number Add = 2
kind_number Set = 3
kind_number Copy = 4

-- the kind that has the number, or that none has it
abbrev pub KindOf : ℕ → Result Kind UnknownKind → Type 0
KindOf n r = MatchResult r (λ k. kind_number k ≡ n) (λ e. (leb 1 n && leb n 4) ≡ false)

-- ---- a program

-- the row that holds zeros
abbrev pub no_step : Step
no_step = record { kind = 0; item = 0; operand = pos 0 }

-- the steps that count
unfoldable pub steps_of : Program → List Step
steps_of p = take p.count p.steps

-- the program of these steps, if there is room for them
unfoldable pub program_of : List Step → Program
program_of xs = record { count = length xs; steps = xs ++ replicate (most_steps - length xs) no_step }

-- ---- a state

-- the row of a value
abbrev pub value_of : ℤ → Value
value_of v = record { 0 = v }

-- item i's value, and 0 past the rows
unfoldable pub state_of : State → ℕ → ℤ
state_of s i = (get_or s.values i (value_of (pos 0))).0

-- the values of the items from i on
unfoldable pub values_from : ℕ → ℕ → (ℕ → ℤ) → List Value
values_from i zero s = []
values_from i (suc n) s = value_of (s i) ∷ values_from (suc i) n s

-- a state's rows: the value of each item that a book may have
unfoldable pub state_rows : (ℕ → ℤ) → State
state_rows s = record { values = values_from 0 most_items s }

-- ---- a step, and a program

-- "Add: add the operand; decline if the sum leaves −9,999 to 9,999.": item i takes the sum z, if it may
unfoldable pub added : (ℕ → ℤ) → ℕ → ℤ → Option State
added s i z = cond (in_range z) (Some (state_rows (takes s i z))) None

-- the state after a step, if the step does not decline
unfoldable pub stepped : Step → (ℕ → ℤ) → Option State
stepped x s = cond (declines x s) None (Some (state_rows (after x s)))

-- whether the program runs to its end, or which step declines
unfoldable pub ran : List Step → (ℕ → ℤ) → Result Unit Declined
ran xs s = cond (eqb (declined xs s) 0) (Ok tt) (Err (record { 0 = declined xs s }))
