-- The loop's invariant: the results of the items below i have been joined in.
use Rattle.conditions.specs.Conditions.{number}
use Rattle.book.specs.States.{steps_of}
use Rattle.book.proofs.Working.{Joining}
use Rattle.book.proofs.alternatives.joined_in.Given as goal

abbrev pub invariant-loop-i : goal.invariant-loop-i
invariant-loop-i l = Joining (steps_of l.p) l.s (number l.condition) l.fn.new l.count l.i l.x-items
