use borrow.Author.Rules.{rules}
use mathlib.Core.Path.{◌≡◌, refl, ap, ◌∙◌}
use mathlib.Core.Bool.{cond}
use mathlib.Core.List.{List, ◌++◌}
use native.Mathlib.Omega.{arith}
use lib.ListN.{length, take, drop, length-take}
use Rattle.conditions.specs.Sets.{member}
use Rattle.book.specs.Rows.{rows_from}
use Rattle.book.specs.declared.Record.{Record}
use Rattle.book.specs.Book.{most_districts, no_record}
use Rattle.book.specs.Records.{begin_record}
use Rattle.book.proofs.Loops.{turn, rows-taken}
use Rattle.book.proofs.touched.begun_records.Goals as goal

pub loop-d-init : goal.loop-d-init
unfolding rows_from
loop-d-init c = refl

pub loop-d-preserved : goal.loop-d-preserved
loop-d-preserved c =
    turn (λ d x. cond (member c.args.set d) (begin_record c.args.n.0) x) no_record c.loop-d.d (take c.args.districts c.args.records) c.loop-d.r-items c.begun_record.result (omega arith) c.loop-d.invariant c.begun_record.ensures

pub returns : goal.returns
returns c =
    let long : length c.args.records ≡ most_districts = search rules in
    let last : c.loop-d.d ≡ c.args.districts = omega (arith, c.requires, length-take c.args.districts c.args.records) in
    ap (λ (l : List Record). l ++ drop c.args.districts c.args.records) (rw last at c.loop-d.invariant) ∙ rows-taken (λ d x. cond (member c.args.set d) (begin_record c.args.n.0) x) c.args.districts c.args.records
