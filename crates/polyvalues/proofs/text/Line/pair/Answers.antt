-- The value, the colon and the condition.
use mathlib.Core.Path.{ap}
use native.Mathlib.Omega.{arith}
use lib.ListN.{length}
use mir.Syntax.{w16}
use mir.Val.{SFits}
use Rattle.conditions.specs.Places.{places}
use Rattle.conditions.specs.Text.{number_at}
use Rattle.conditions.proofs.Putting.{put-length}
use Rattle.polyvalues.proofs.Texts.{handed-text, pair-length, pair_put}
use Rattle.polyvalues.proofs.text.Line.pair.Goals as goal

pub value-requires : goal.value-requires
value-requires c =
    let fits : SFits w16 c.args.pair.value = record { sfits = c.struct_told-1.given.0.1 } in
    omega (arith, c.requires, pair-length places (number_at c.args.numbers) c.args.pair, ap length (handed-text fits))

pub byte-requires : goal.byte-requires
byte-requires c =
    let fits : SFits w16 c.args.pair.value = record { sfits = c.struct_told-1.given.0.1 } in
    omega (arith, c.requires, pair-length places (number_at c.args.numbers) c.args.pair, ap length (handed-text fits), c.value.ensures.put.ends, put-length c.value.ensures.put)

pub condition-requires : goal.condition-requires
condition-requires c =
    let fits : SFits w16 c.args.pair.value = record { sfits = c.struct_told-1.given.0.1 } in
    omega (arith, c.requires, pair-length places (number_at c.args.numbers) c.args.pair, ap length (handed-text fits), c.value.ensures.put.ends, c.byte.ensures.put.ends, put-length c.value.ensures.put, put-length c.byte.ensures.put)

pub returns : goal.returns
returns c =
    let fits : SFits w16 c.args.pair.value = record { sfits = c.struct_told-1.given.0.1 } in
    pair_put places _ _ (rw (handed-text fits) at c.value.ensures) c.byte.ensures c.condition.ensures
