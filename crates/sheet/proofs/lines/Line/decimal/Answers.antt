-- There is room for twenty digits, so that it is written.
use native.Mathlib.Omega.{arith}
use mathlib.Core.Path.{refl, sym, ◌∙◌}
use Rattle.conditions.proofs.Laws.Text.{decimal-le}
use Rattle.conditions.proofs.Putting.{put-length, written-put, never-refused}
use Rattle.sheet.proofs.lines.Line.decimal.Goals as goal

pub unwrap-self-requires : goal.unwrap-self-requires
unwrap-self-requires c = never-refused _ _ _ (omega (arith, c.requires, decimal-le 19 c.args.n (omega arith))) c.write_decimal.ensures.value

pub returns : goal.returns
returns c =
    let few = decimal-le 19 c.args.n (omega arith) in
    let put = written-put (omega (arith, c.requires)) (sym c.unwrap-self.ensures ∙ c.write_decimal.ensures.value) c.write_decimal.ensures.buf_after in
    record {
      put = record { put = put; lent = refl; long = put-length put };
      upper_bound = omega (arith, put.ends);
    }
