-- The value, the colon and the condition.
use mathlib.Core.Path.{ap}
use native.Mathlib.Omega.{arith}
use lib.ListN.{length}
use mir.Syntax.{w16}
use mir.Val.{SFits}
use Rattle.conditions.specs.Places.{places}
use Rattle.conditions.specs.Text.{number_at}
use Rattle.polyvalues.proofs.Texts.{handed-text, pair-length}
use Rattle.polyvalues.proofs.text.pair_len.Goals as goal

pub returns : goal.returns
returns c =
    let fits : SFits w16 c.args.pair.value = record { sfits = c.struct_told-1.given.0.1 } in record {
      value = omega (arith, pair-length places (number_at c.args.numbers) c.args.pair, c.value_len.ensures.value, ap length (handed-text fits), c.text_len.ensures.value);
      upper_bound = omega (arith, c.value_len.ensures.upper_bound, c.text_len.ensures.upper_bound);
    }
