-- The loop's invariant: what is asked is asked of the rows from i on.
use mathlib.Core.Path.{◌≡◌}
use lib.ListN.{drop}
use Rattle.conditions.specs.Places.{places}
use Rattle.polyvalues.specs.Pairs.{asked}
use Rattle.polyvalues.specs.Polyvalues.{in_use}
use Rattle.polyvalues.proofs.Asking.{left}
use Rattle.polyvalues.proofs.polyvalue.Polyvalue.value_under.Given as goal

abbrev pub invariant-loop-i : goal.invariant-loop-i
invariant-loop-i l = left l.found (drop l.i (in_use l.self)) l.assignment ≡ asked places (in_use l.self) l.assignment
