-- The loop's invariant: what is asked is asked of the rows from i on.
use mathlib.Core.Path.{◌≡◌}
use lib.ListN.{length, drop}
use Rattle.polyvalues.specs.Pairs.{blank}
use Rattle.polyvalues.specs.Polyvalues.{each, most_pairs, rows_of}
use Rattle.polyvalues.proofs.polyvalue.Polyvalue.is_tidy.Given as goal

abbrev pub invariant-loop-i : goal.invariant-loop-i
invariant-loop-i l = (length (rows_of l.self) ≡ most_pairs) × (each blank (drop l.i (rows_of l.self)) ≡ each blank (drop l.self.count (rows_of l.self)))
