-- The loop's invariant: the assignments before the next one are covered.
use Prim.Native.Nat.{◌-◌, ◌^◌}
use Rattle.conditions.specs.Places.{places}
use Rattle.book.specs.States.{steps_of}
use Rattle.book.proofs.Working.{Covering}
use Rattle.book.proofs.alternatives.worked_out.Given as goal

abbrev pub invariant-loop-next : goal.invariant-loop-next
invariant-loop-next l = Covering l.b (steps_of l.p) l.next l.done

abbrev pub decreases-loop-next : goal.decreases-loop-next
decreases-loop-next l = 2 ^ places - l.next
