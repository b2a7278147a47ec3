use native.Mathlib.Omega.{arith}
use Rattle.std.proofs.lemmas.Grind.{common_steps}
use Rattle.book.specs.Begin.{bad_step}
use Rattle.book.proofs.Step.is_bad.Goals as goal

pub returns-in-Ok-Copy : goal.returns-in-Ok-Copy
unfolding bad_step
returns-in-Ok-Copy c = grind (arith, common_steps)

pub returns-in-Ok : goal.returns-in-Ok
unfolding bad_step
returns-in-Ok c = grind (arith, common_steps)

pub returns-in-Err : goal.returns-in-Err
unfolding bad_step
returns-in-Err c = grind (arith, common_steps)
