use mathlib.Core.Path.{ap}
use Prim.Native.Nat.{ℕ}
use native.Mathlib.Omega.{arith}
use lib.ListN.{length}
use Rattle.conditions.specs.Places.{places}
use Rattle.conditions.specs.Text.{decimal, number_at}
use Rattle.conditions.proofs.Putting.{put-length}
use Rattle.polyvalues.specs.declared.polyvalue.Pair.{Pair}
use Rattle.polyvalues.specs.Polyvalues.{in_use}
use Rattle.polyvalues.specs.Text.{pair_text}
use Rattle.polyvalues.proofs.Texts.{line-length, begun-room, begun_more, line-begun, line-done}
use Rattle.polyvalues.proofs.text.Line.polyvalue.Goals as goal

pub decimal-requires : goal.decimal-requires
decimal-requires c = omega (arith, c.requires, line-length places (number_at c.args.numbers) (in_use c.args.q), ap (λ (k : ℕ). length (decimal k)) c.len-n.ensures.value)

pub loop-i-init : goal.loop-i-init
loop-i-init c = (line-begun places _ _ c.len-n.ensures.value c.decimal.ensures c.requires)

pub byte-requires : goal.byte-requires
byte-requires c = omega (arith, begun-room places _ _ c.loop-i.invariant (omega (arith, c.len-n.ensures.value)))

pub pair-requires : goal.pair-requires
pair-requires c = omega (arith, begun-room places _ _ c.loop-i.invariant (omega (arith, c.len-n.ensures.value)), c.byte.ensures.put.ends, put-length c.byte.ensures.put, ap (λ (p : Pair). length (pair_text places (number_at c.args.numbers) p)) c.row-row.ensures)

pub loop-i-preserved : goal.loop-i-preserved
loop-i-preserved c = (begun_more places _ _ c.loop-i.invariant (omega (arith, c.len-n.ensures.value)) c.byte.ensures (rw c.row-row.ensures at c.pair.ensures))

pub returns : goal.returns
returns c = line-done places _ _ c.len-n.ensures.value c.decimal.ensures c.loop-i.invariant (omega (arith, c.len-n.ensures.value))
