-- `!` where it is aborted, T, and the number, of five digits at most.
use mathlib.Core.Path.{◌∙◌}
use borrow.Author.Rules.{rules}
use Prim.Native.Nat.{◌<◌, ◌^◌}
use native.Mathlib.Omega.{arith}
use Rattle.conditions.specs.declared.product.Tag.TheVariants.{Aborted}
use Rattle.conditions.specs.Text.{tag_text}
use Rattle.conditions.proofs.Laws.Text.{decimal-le}
use Rattle.conditions.proofs.Putting.{puts_then}
use Rattle.conditions.proofs.Tags.{same-number}
use Rattle.conditions.proofs.text.Line.put_tag.Goals as goal

pub put_decimal-requires : goal.put_decimal-requires
put_decimal-requires c =
    let small : c.args.n.0 < 2 ^ 16 = search rules in
    omega (arith, c.put_if.ensures.upper_bound, c.put.ensures.put.ends, decimal-le 4 c.from.result (omega arith))

pub returns : goal.returns
unfolding tag_text
returns c =
    let small : c.args.n.0 < 2 ^ 16 = search rules in record {
      put = rw (c.from.ensures, c.eq.ensures ∙ same-number c.args.tag Aborted) at (puts_then (puts_then c.put_if.ensures.put c.put.ensures) c.put_decimal.ensures);
      upper_bound = omega (arith, c.put_if.ensures.upper_bound, c.put.ensures.put.ends, c.put_decimal.ensures.put.ends, decimal-le 4 c.from.result (omega arith));
    }
