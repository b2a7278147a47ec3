-- The loop's invariant: the bytes that wait are within the buffer.
use Prim.Native.Nat.{◌≤◌}
use lib.ListN.{length}
use Rattle.ovenmoth.proofs.play_all.Given as goal

abbrev pub invariant-loop-position : goal.invariant-loop-position
invariant-loop-position l = l.waiting ≤ length l.out
