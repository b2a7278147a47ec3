-- Twenty digits at most.
use borrow.Author.Rules.{rules}
use native.Mathlib.Omega.{arith}
use Rattle.conditions.proofs.Laws.Text.{decimal-le}
use Rattle.conditions.proofs.text.decimal_len.Goals as goal

pub returns-clause-upper_bound : goal.returns-clause-upper_bound
returns-clause-upper_bound c =
    let long = decimal-le 19 c.args.n (omega arith) in
    search (rules, arith, long)

pub length_by-requires : goal.length_by-requires
length_by-requires c =
    let long = decimal-le 19 c.args.n (omega arith) in
    search (rules, long)
