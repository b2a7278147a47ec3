-- The loop's invariant: the places that the items before x depend on.
use Rattle.conditions.specs.Places.{places as width}
use Rattle.book.proofs.Depended.{DependedBy}
use Rattle.book.proofs.forget.forget.Given as goal

abbrev pub invariant-loop-x : goal.invariant-loop-x
invariant-loop-x l = DependedBy width l.fn.b l.x-index l.depended
