-- The loop's invariant: the tags of p from place i on are read.
use Rattle.conditions.specs.Places.{places}
use Rattle.conditions.proofs.Skipping.{Walk}
use Rattle.conditions.proofs.product.barren_from.Given as goal

abbrev pub invariant-loop-i : goal.invariant-loop-i
invariant-loop-i l = Walk places l.c.0 l.p l.i l.set l.rest l.scale
