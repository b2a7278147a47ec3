use borrow.Author.Rules.{rules}
use mathlib.Core.Path.{◌≡◌, sym, ◌∙◌}
use native.Mathlib.Numerals.{add-one}
use native.Mathlib.Omega.{arith}
use lib.ListN.{length}
use Prim.Native.Nat.{◌+◌}
use Rattle.std.proofs.Common.{None, Some, Err}
use Rattle.book.specs.Book.{most_items}
use Rattle.book.proofs.Reading.{inside-row}
use Rattle.book.proofs.Running.{running-start, run-declined, run-declines, run_on, run_ends}
use Rattle.book.proofs.program.Program.run.Goals as goal

pub after-requires : goal.after-requires
after-requires c = inside-row c.steps-steps.result.now c.loop-i.i (rw c.steps-steps.ensures c.requires) (omega arith)

pub returns-in_err-now-clause-answer : goal.returns-in_err-now-clause-answer
returns-in_err-now-clause-answer c =
    let long : length c.args.state.now.values ≡ most_items = search rules in
    let none : c.after.result ≡ None = search rules in
    let number = run-declines c.steps-steps.result.now c.args.state.now c.loop-i.now c.loop-i.i (omega arith) c.loop-i.invariant (sym none ∙ c.after.ensures) in
    let is : c.from_residual.result ≡ Err (record { 0 = c.loop-i.i + 1 }) = search rules in
    rw add-one at is ∙ rw (← c.steps-steps.ensures) (run-declined c.steps-steps.result.now c.args.state.now c.loop-i.i long number).0

pub returns-in_err-now-clause-values : goal.returns-in_err-now-clause-values
returns-in_err-now-clause-values c =
    let long : length c.args.state.now.values ≡ most_items = search rules in
    let none : c.after.result ≡ None = search rules in
    let number = run-declines c.steps-steps.result.now c.args.state.now c.loop-i.now c.loop-i.i (omega arith) c.loop-i.invariant (sym none ∙ c.after.ensures) in
    rw (← c.steps-steps.ensures) (run-declined c.steps-steps.result.now c.args.state.now c.loop-i.i long number).1

pub loop-i-init : goal.loop-i-init
loop-i-init c = running-start c.steps-steps.result.now c.args.state.now (search rules)

pub loop-i-preserved : goal.loop-i-preserved
loop-i-preserved c =
    let some : c.after.result ≡ Some c.in_ok-now.now = search rules in
    rw add-one (run_on c.steps-steps.result.now c.args.state.now c.loop-i.now c.loop-i.i (omega arith) c.loop-i.invariant
    (inside-row c.steps-steps.result.now c.loop-i.i (rw c.steps-steps.ensures c.requires) (omega arith)) (sym some ∙ c.after.ensures))

pub returns-clause-answer : goal.returns-clause-answer
returns-clause-answer c = rw (← c.steps-steps.ensures) (run_ends c.steps-steps.result.now c.args.state.now c.loop-i.now c.loop-i.i (omega arith) c.loop-i.invariant).0

pub returns-clause-values : goal.returns-clause-values
returns-clause-values c = rw (← c.steps-steps.ensures) (run_ends c.steps-steps.result.now c.args.state.now c.loop-i.now c.loop-i.i (omega arith) c.loop-i.invariant).1
