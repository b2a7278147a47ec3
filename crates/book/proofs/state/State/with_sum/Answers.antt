-- What is added is in range, or the step declines.
use borrow.Author.Rules.{rules}
use mathlib.Core.Path.{◌≡◌, sym, ap, ◌∙◌}
use Rattle.std.proofs.Common.{Some, None}
use Rattle.polyvalues.specs.Values.{sum}
use lib.IntN.{ℤ, ◌+ℤ◌}
use Rattle.book.specs.Programs.{takes}
use Rattle.book.specs.States.{state_of, state_rows}
use Rattle.book.proofs.Running.{summed, not-summed, added-yes, added-no}
use Rattle.book.proofs.state.State.with_sum.Goals as goal

pub returns : goal.returns
returns c =
    let a = c.args in
    let is : c.sum.result ≡ sum a.old.0 a.operand = search rules in
    let some : c.sum.result ≡ Some c.in_ok-v.v = search rules in
    let it = summed a.old.0 a.operand _ (sym some ∙ is) in
    let rows : c.with.result ≡ state_rows (takes (state_of a.self) a.item c.in_ok-v.v) = search rules in
    added-yes a.self a.item (a.old.0 +ℤ a.operand) it.0 (rows ∙ ap (λ (z : ℤ). state_rows (takes (state_of a.self) a.item z)) it.1)

pub returns-in_err-v : goal.returns-in_err-v
returns-in_err-v c =
    let a = c.args in
    let is : c.sum.result ≡ sum a.old.0 a.operand = search rules in
    let none : c.sum.result ≡ None = search rules in
    let left : c.from_residual.result ≡ None = search rules in
    left ∙ added-no a.self a.item (a.old.0 +ℤ a.operand) (not-summed a.old.0 a.operand (sym none ∙ is))
