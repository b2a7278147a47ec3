-- The loop's invariant: the set of such places before i.
use mathlib.Core.Path.{◌≡◌}
use Rattle.conditions.specs.Places.{places}
use Rattle.conditions.specs.Sets.{set_of}
use Rattle.conditions.specs.Conditions.{depends_on}
use Rattle.conditions.proofs.condition.Condition.places.Given as goal

abbrev pub invariant-loop-i : goal.invariant-loop-i
invariant-loop-i l = l.set ≡ set_of l.i (depends_on places l.self.0)
