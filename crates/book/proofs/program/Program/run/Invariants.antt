-- The loop's invariant: before step i the program is running.
use Rattle.book.proofs.Running.{Running}
use Rattle.book.proofs.program.Program.run.Given as goal

abbrev pub invariant-loop-i : goal.invariant-loop-i
invariant-loop-i l = Running l.steps l.state l.i l.now
