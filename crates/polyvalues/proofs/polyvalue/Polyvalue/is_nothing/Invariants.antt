-- The loop's invariant: what is asked is asked of the rows from i on, where those before it were blank.
use mathlib.Core.Path.{◌≡◌}
use mathlib.Core.Bool.{◌&&◌}
use lib.Dec.{eqb}
use lib.ListN.{length, drop}
use Rattle.polyvalues.specs.Pairs.{blank}
use Rattle.polyvalues.specs.Polyvalues.{each, most_pairs, rows_of}
use Rattle.polyvalues.proofs.polyvalue.Polyvalue.is_nothing.Given as goal

abbrev pub invariant-loop-i : goal.invariant-loop-i
invariant-loop-i l = (length (rows_of l.self) ≡ most_pairs) × ((l.none && each blank (drop l.i (rows_of l.self))) ≡ (eqb l.self.count 0 && each blank (rows_of l.self)))
