-- Each test in its order; the program that is read has the steps of the bytes.
use mathlib.Core.Path.{sym, ap, ◌∙◌}
use Rattle.std.specs.Prelude.{Ok}
use Rattle.book.specs.declared.program.Program.{Program}
use mathlib.Core.List.{List}
use Rattle.book.specs.declared.Step.{Step}
use Rattle.book.specs.Answers.{first_of}
use Rattle.book.specs.Begin.{outside}
use Rattle.book.specs.Programs.{steps, some_step}
use Rattle.book.specs.States.{steps_of}
use Rattle.book.proofs.Reading.{good-count, steps-read}
use Rattle.book.proofs.Book.program.Goals as goal

pub returns-then-not-is_sound : goal.returns-then-not-is_sound
unfolding first_of
returns-then-not-is_sound c = rw (sym c.is_sound.ensures ∙ c.if-not-is_sound.true)

pub returns-then-bad_program : goal.returns-then-bad_program
unfolding first_of
returns-then-bad_program c = rw (sym c.is_sound.ensures ∙ c.if-not-is_sound.false, sym c.bad_program.ensures ∙ c.if-bad_program.true)

pub read-p-requires : goal.read-p-requires
read-p-requires c = good-count c.args.bytes.now (sym c.bad_program.ensures ∙ c.if-bad_program.false)

pub returns-then-is_outside : goal.returns-then-is_outside
unfolding first_of
returns-then-is_outside c =
    let same = ap (λ (p : Program). steps_of p) c.read-p.ensures ∙ steps-read (steps c.args.bytes.now) in
    rw (sym c.is_sound.ensures ∙ c.if-not-is_sound.false, sym c.bad_program.ensures ∙ c.if-bad_program.false, ← same, sym c.is_outside.ensures ∙ c.if-is_outside.true)

pub returns : goal.returns
unfolding first_of
returns c =
    let same = ap (λ (p : Program). steps_of p) c.read-p.ensures ∙ steps-read (steps c.args.bytes.now) in
    ap Ok c.read-p.ensures ∙ rw (sym c.is_sound.ensures ∙ c.if-not-is_sound.false, sym c.bad_program.ensures ∙ c.if-bad_program.false, ap (λ (xs : List Step). some_step (outside c.args.self.now.count) xs) (sym same) ∙ sym c.is_outside.ensures ∙ c.if-is_outside.false)
