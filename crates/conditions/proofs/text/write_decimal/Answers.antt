use borrow.Author.Rules.{rules}
use native.Mathlib.Omega.{arith}
use Rattle.conditions.proofs.Laws.Text.{decimal-le}
use Rattle.conditions.proofs.text.write_decimal.Goals as goal

pub write_by-requires : goal.write_by-requires
write_by-requires c =
    let long = decimal-le 19 c.args.n (omega arith) in
    search (rules, long)
