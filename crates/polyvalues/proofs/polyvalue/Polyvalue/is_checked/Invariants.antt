-- The loop's invariant: what is asked is asked of the rows from i on, after the last row and what is covered.
use mathlib.Core.Path.{◌≡◌}
use lib.ListN.{drop}
use Rattle.conditions.specs.Places.{places}
use Rattle.polyvalues.specs.Polyvalues.{in_use}
use Rattle.polyvalues.specs.Checked.{below_all, checked_from}
use Rattle.polyvalues.proofs.polyvalue.Polyvalue.is_checked.Given as goal

abbrev pub invariant-loop-i : goal.invariant-loop-i
invariant-loop-i l = checked_from places l.last.value l.covered.0 (drop l.i (in_use l.self)) ≡ checked_from places below_all 0 (in_use l.self)
