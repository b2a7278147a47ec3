-- The loop's invariant: the first i steps are read.
use mathlib.Core.Path.{◌≡◌}
use Rattle.book.specs.Programs.{steps}
use Rattle.book.specs.declared.Step.{Step}
use Rattle.book.specs.States.{no_step}
use Rattle.book.proofs.Filling.{filled_upto}
use Rattle.book.proofs.program.read.Given as goal

abbrev pub invariant-loop-i : goal.invariant-loop-i
invariant-loop-i l = l.step-items ≡ filled_upto (λ (x : Step). x) no_step l.n l.i (steps l.bytes)
