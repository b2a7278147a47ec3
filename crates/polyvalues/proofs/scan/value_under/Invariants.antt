-- The loop's invariant: what is asked is asked of the pairs from here on.
use mathlib.Core.Path.{◌≡◌}
use lib.ListN.{drop}
use Rattle.conditions.specs.Places.{places}
use Rattle.polyvalues.specs.Pairs.{asked}
use Rattle.polyvalues.proofs.Asking.{left}
use Rattle.polyvalues.proofs.scan.value_under.Given as goal

abbrev pub invariant-loop-pair : goal.invariant-loop-pair
invariant-loop-pair l = left l.found (drop l.pair-index l.pairs) l.assignment ≡ asked places l.pairs l.assignment
