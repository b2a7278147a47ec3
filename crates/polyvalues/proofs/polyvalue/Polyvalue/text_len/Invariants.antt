-- The loop's invariant: the length so far and that of the rows from i on are the line's.
use mathlib.Core.Path.{◌≡◌}
use Prim.Native.Nat.{◌+◌, ◌*◌, ◌^◌, ◌≤◌}
use lib.ListN.{length, drop}
use Rattle.conditions.specs.Places.{places}
use Rattle.conditions.specs.Text.{number_at}
use Rattle.polyvalues.specs.Polyvalues.{in_use}
use Rattle.polyvalues.specs.Text.{line_text}
use Rattle.polyvalues.proofs.Texts.{rows_text}
use Rattle.polyvalues.proofs.polyvalue.Polyvalue.text_len.Given as goal

abbrev pub invariant-loop-i : goal.invariant-loop-i
invariant-loop-i l =
    (l.len + length (rows_text places (number_at l.numbers) (drop l.i (in_use l.self))) ≡ length (line_text places (number_at l.numbers) (in_use l.self)))
    × (l.len ≤ 1 + l.i * (8 + (8 * places + 2) * 3 ^ places))
