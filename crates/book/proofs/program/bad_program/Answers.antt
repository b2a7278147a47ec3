-- The length is tested, and then each step.
use mathlib.Core.Path.{sym, ap, ◌∙◌}
use mathlib.Core.List.{List}
use Rattle.book.specs.declared.Step.{Step}
use Rattle.book.specs.Programs.{steps, some_step}
use Rattle.book.specs.Begin.{bad_step, bad_program}
use Rattle.book.specs.States.{steps_of}
use Rattle.book.proofs.Reading.{few-steps, steps-read}
use Rattle.book.proofs.program.bad_program.Goals as goal

pub returns-then-bad_length : goal.returns-then-bad_length
unfolding bad_program
returns-then-bad_length c = c.if-bad_length.true ∙ rw (sym c.bad_length.ensures ∙ c.if-bad_length.true)

pub read-requires : goal.read-requires
read-requires c = few-steps c.args.bytes.now (sym c.bad_length.ensures ∙ c.if-bad_length.false)

pub returns-else-bad_length : goal.returns-else-bad_length
unfolding bad_program
returns-else-bad_length c =
    let few = sym c.bad_length.ensures ∙ c.if-bad_length.false in
    simp few (c.has_bad_step.ensures ∙ ap (λ (xs : List Step). some_step bad_step xs) (ap steps_of c.read.ensures ∙ steps-read (steps c.args.bytes.now)))
