-- The loop's invariant: the count with the values of the rows from i on makes all.
use mathlib.Core.Path.{◌≡◌}
use mathlib.Core.List.{◌++◌}
use Prim.Native.Nat.{◌+◌, ◌≤◌}
use lib.ListN.{drop}
use Rattle.polyvalues.specs.Polyvalues.{in_use}
use Rattle.polyvalues.specs.Operations.{different}
use Rattle.polyvalues.proofs.polyvalue.Polyvalue.fresh.Given as goal

abbrev pub invariant-loop-i : goal.invariant-loop-i
invariant-loop-i l = (l.count ≤ l.i) × (l.count + different (drop l.i (in_use l.self) ++ in_use l.other) ≡ different (in_use l.self ++ in_use l.other))
