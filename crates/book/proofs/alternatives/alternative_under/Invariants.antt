-- The loop's invariant: the touched items below i have chosen.
use Rattle.book.specs.States.{steps_of}
use Rattle.book.proofs.Working.{Choosing}
use Rattle.book.proofs.alternatives.alternative_under.Given as goal

abbrev pub invariant-loop-i : goal.invariant-loop-i
invariant-loop-i l = Choosing l.b (steps_of l.p) l.assignment l.i l.done
