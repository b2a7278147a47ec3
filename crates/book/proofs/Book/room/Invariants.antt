-- The loop's invariant: the districts with a touched item before i.
use Rattle.book.specs.States.{steps_of}
use Rattle.book.proofs.Touching.{TouchedBy}
use Rattle.book.proofs.Book.room.Given as goal

abbrev pub invariant-loop-i : goal.invariant-loop-i
invariant-loop-i l = TouchedBy l.self (steps_of l.p) l.i l.set
