-- The loop's invariant: the places that the rows before i depend on.
use Prim.Native.Nat.{◌<◌, ◌^◌}
use Rattle.conditions.specs.Places.{places as width}
use Rattle.polyvalues.proofs.Joining.{PlacesBefore}
use Rattle.polyvalues.proofs.polyvalue.Polyvalue.places.Given as goal

abbrev pub invariant-loop-c : goal.invariant-loop-c
invariant-loop-c l = (l.set < 2 ^ width) × PlacesBefore l.fn.self l.c-index l.set
