-- Programs in rows: what holding one tells of it, the steps in use, how bytes are read into a program, and a test of each step.
use mathlib.Core.Path.{◌≡◌, refl, sym, ap, ap₂, ◌∙◌}
use mathlib.Core.Bool.{Bool, false, not, ◌||◌}
use mathlib.Core.List.{List, [], ◌∷◌, ◌++◌, map-id}
use Prim.Native.Nat.{ℕ, ◌+◌, ◌-◌, ◌*◌, ◌%◌, ◌≤◌, ◌<◌}
use native.Mathlib.Nat.{add_comm}
use denote.Shadow.{shadow}
use lib.Dec.{eqb}
use lib.IntN.{ℤ}
use lib.ListN.{length, get_or, take, replicate}
use lib.Seq.{take-length, take-append_seam}
use mir.Val.{Val}
use Rattle.std.specs.List.{list_any}
use borrow.Author.Tests.{ltb-false}
use Rattle.conditions.proofs.Laws.Below.{or_left, or_right}
use Rattle.conditions.proofs.Laws.Lists.{take_row}
use Rattle.polyvalues.specs.Values.{of_bytes}
use Rattle.book.specs.declared.Step.{Step}
use Rattle.book.specs.declared.program.Program.{Program}
use Rattle.book.specs.contracts.program.Program as TProgram
use Rattle.book.specs.Book.{most_items}
use Rattle.book.specs.Programs.{steps, some_step}
use Rattle.book.specs.Begin.{most_steps, bad_length, bad_program, outside}
use Rattle.book.specs.States.{no_step, steps_of, program_of}
use Rattle.book.proofs.Laws.Steps.{get_or-steps}
use Rattle.book.proofs.Filling.{filled_upto}
use Rattle.book.proofs.Naming.{some-none}

-- p is a value that code holds
pub record Held (p : Program) : Type 0 where
  pub values : List Val
  pub own : shadow ((TProgram.the_field).row.own_val ((TProgram.the_field).into p) values)

pub steps-long : {p : Program} → Held p → length p.steps ≡ most_steps
steps-long {p} h = h.own.1.1.1.0.1.0.1

-- ---- a program as bytes

pub step-read : (bytes : List ℕ) (j : ℕ) → j < length (steps bytes) → {z : ℤ} → z ≡ of_bytes (get_or bytes (4 * j + 2) 0) (get_or bytes (4 * j + 3) 0)
    → record { kind = get_or bytes (4 * j) 0; item = get_or bytes (4 * j + 1) 0; operand = z } ≡ get_or (steps bytes) j no_step
step-read bytes j h e =
    let item = ap (λ (i : ℕ). get_or bytes i 0) (add_comm (4 * j) 1) in
    let high = ap (λ (i : ℕ). get_or bytes i 0) (add_comm (4 * j) 2) in
    let low = ap (λ (i : ℕ). get_or bytes i 0) (add_comm (4 * j) 3) in
    let operand = e ∙ ap₂ of_bytes high low in
    (λ k. record { kind = get_or bytes (4 * j) 0; item = item k; operand = operand k }) ∙ sym (get_or-steps bytes j h)

pub few-steps : (bytes : List ℕ) → bad_length bytes ≡ false → length (steps bytes) ≤ most_steps
few-steps bytes e = ltb-false most_steps (length (steps bytes)) (or_right (not (eqb (length bytes % 4) 0) || eqb (length (steps bytes)) 0) _ e)

-- a program that is not bad has few steps
pub good-count : (bytes : List ℕ) → bad_program bytes ≡ false → length (steps bytes) ≤ most_steps
unfolding bad_program
good-count bytes good = few-steps bytes (or_left (bad_length bytes) _ good)

-- ---- a program that is read: the first i steps are there

abbrev pub read_upto : ℕ → List Step → List Step
read_upto i xs = filled_upto (λ (x : Step). x) no_step most_steps i xs

pub read_all : (xs : List Step) (i n : ℕ) {rows : List Step} → i ≡ length xs → n ≡ length xs → rows ≡ read_upto i xs → record { count = n; steps = rows } ≡ program_of xs
unfolding program_of
read_all xs i n e f is =
    let all : read_upto i xs ≡ xs ++ replicate (most_steps - length xs) no_step = ap (λ (m : ℕ). read_upto m xs) e ∙ ap (λ (l : List Step). l ++ replicate (most_steps - length xs) no_step) (map-id (take (length xs) xs) ∙ take-length xs) in
    let rows_are = is ∙ all in
    λ k. record { count = f k; steps = rows_are k }

pub steps-read : (xs : List Step) → steps_of (program_of xs) ≡ xs
unfolding steps_of program_of
steps-read xs = take-append_seam xs (replicate (most_steps - length xs) no_step)

-- ---- the steps in use

step_row : (p : Program) (i : ℕ) → i < length (steps_of p) → get_or (steps_of p) i no_step ≡ get_or p.steps i no_step
unfolding steps_of
step_row p i h = take_row p.count p.steps i no_step h

-- ---- a test of each step

-- every step in use is inside the table
pub inside-row : (xs : List Step) (i : ℕ) → some_step (outside most_items) xs ≡ false → i < length xs → outside most_items (get_or xs i no_step) ≡ false
inside-row xs i e h = some-none (outside most_items) xs i e h

-- the library's test of each
pub some-step : (f : Step → Bool) (xs : List Step) → list_any f xs ≡ some_step f xs
some-step f [] = refl
some-step f (x ∷ xs) = ap (λ (b : Bool). f x || b) (some-step f xs)
