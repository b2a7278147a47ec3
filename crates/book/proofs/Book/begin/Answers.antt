-- As it was judged: what is left is whether the values are too many.
use native.Mathlib.Omega.{arith}
use mathlib.Core.Path.{◌≡◌, refl, sym, ap, ◌∙◌}
use mathlib.Core.Bool.{Bool, true, false, cond}
use mathlib.Core.List.{List, [], ◌∷◌, ◌++◌}
use Prim.Native.Nat.{ℕ, ◌<◌}
use borrow.Author.Tests.{ltb-true, not-false}
use Rattle.std.specs.Prelude.{Ok, Err}
use Rattle.conditions.specs.Places.{places}
use Rattle.book.specs.declared.Book.{Book}
use Rattle.book.specs.declared.Step.{Step}
use Rattle.book.specs.declared.program.Program.{Program}
use Rattle.book.specs.declared.begin.Room.{Room}
use Rattle.book.specs.declared.Refusal.{Refusal}
use Rattle.book.specs.declared.Refusal.TheVariants.{TooManyValues}
use Rattle.book.specs.Answers.{accepted, first_of}
use Rattle.book.specs.Book.{last_number, free_place}
use Rattle.book.specs.Programs.{steps, some_step}
use Rattle.book.specs.States.{steps_of, program_of}
use Rattle.book.specs.Begin.{outside, some_busy, too_many, begins, begin_answer, begin}
use Rattle.book.specs.Judged.{program_tests, room_tests, room_of}
use Rattle.book.specs.SoundTest.{sound}
use Rattle.book.proofs.Reading.{steps-read}
use Rattle.book.proofs.Laws.Answers.{and-accepted, and-refused, test-false, later-accepted}
use Rattle.book.proofs.Judging.{first-more}
use Rattle.book.proofs.Book.begin.Goals as goal

-- all tests but the last
abbrev asked : Book → List ℕ → List (Bool × Refusal)
asked b bytes = program_tests places b bytes ++ room_tests places b (steps bytes)

-- what they leave
record Asked (b : Book) (xs : List Step) : Type 0 where
  pub sound : sound places b ≡ true
  pub inside : some_step (outside b.count) xs ≡ false
  pub idle : some_busy b xs ≡ false
  pub place : free_place places b < places
  pub number : b.last.0 < last_number

were-asked : (b : Book) (bytes : List ℕ) → first_of (asked b bytes) ≡ Ok tt → Asked b (steps bytes)
were-asked b bytes e =
    let y = ap accepted e in
    let y1 = later-accepted _ _ _ y in
    let y2 = later-accepted _ _ _ y1 in
    let y3 = later-accepted _ _ _ y2 in
    let y4 = later-accepted _ _ _ y3 in
    let y5 = later-accepted _ _ _ y4 in
    record {
      sound = not-false _ (test-false _ _ _ y);
      inside = test-false _ _ _ y2;
      idle = test-false _ _ _ y3;
      place = ltb-true (free_place places b) places (not-false _ (test-false _ _ _ y4));
      number = ltb-true b.last.0 last_number (not-false _ (test-false _ _ _ y5));
    }

pub begin_at-requires : goal.begin_at-requires
begin_at-requires c =
    let b = c.args.self in
    let xs = steps c.args.bytes.now in
    let judged = and-accepted (first_of (asked b c.args.bytes.now)) c.in-Ok.ensures in
    let read : steps_of c.in-Ok.p ≡ xs = ap (λ (t : Program × Room). steps_of t.0) judged.1 ∙ steps-read xs in
    let a = were-asked b c.args.bytes.now judged.0 in
    record {
      b_value = (a.sound, ap (some_busy b) read ∙ a.idle);
      p_value = ap (some_step (outside b.count)) read ∙ a.inside;
      room_value = (ap (λ (t : Program × Room). t.1) judged.1 ∙ ap (room_of places b) (sym read), omega (arith, ap (λ (t : Program × Room). t.1.place) judged.1, a.place), a.number);
    }

last-one : (t : Bool) (r : Refusal) → first_of ((t, r) ∷ []) ≡ cond t (Err r) (Ok tt)
unfolding first_of
last-one t r = refl

pub returns-in-Ok : goal.returns-in-Ok
unfolding begin begin_answer
returns-in-Ok c =
    let b = c.args.self in
    let bytes = c.args.bytes.now in
    let xs = steps bytes in
    let judged = and-accepted (first_of (asked b bytes)) c.in-Ok.ensures in
    let read : steps_of c.in-Ok.p ≡ xs = ap (λ (t : Program × Room). steps_of t.0) judged.1 ∙ steps-read xs in
    c.begin_at.ensures ∙ ap (λ (ys : List Step). begins places (cond (too_many places b ys) (Err TooManyValues) (Ok tt)) b ys) read
    ∙ rw (first-more (asked b bytes) ((too_many places b xs, TooManyValues) ∷ []), judged.0, last-one (too_many places b xs) TooManyValues)

pub returns-in-Err : goal.returns-in-Err
unfolding begin begin_answer
returns-in-Err c =
    let b = c.args.self in
    let bytes = c.args.bytes.now in
    let xs = steps bytes in
    c.refused.ensures ∙ rw (first-more (asked b bytes) ((too_many places b xs, TooManyValues) ∷ []), and-refused (first_of (asked b bytes)) (program_of xs, room_of places b xs) c.in-Err.ensures)
