-- Each member is moved to where the place is as the outcome says.
use borrow.Author.Rules.{rules}
use mathlib.Core.Path.{sym, ap, ◌∙◌}
use Prim.Native.Nat.{◌^◌}
use Rattle.conditions.specs.Places.{places}
use Rattle.conditions.specs.Conditions.{reduced}
use Rattle.conditions.proofs.Laws.Sets.{one_shl}
use Rattle.conditions.proofs.Masks.{reduce-completed, reduce-aborted, shift-lt}
use Rattle.conditions.proofs.Laws.Conditions.{reduced-past}
use Rattle.conditions.proofs.condition.Condition.reduce.Goals as goal

pub returns-then-i-ge-PLACES : goal.returns-then-i-ge-PLACES
returns-then-i-ge-PLACES c = sym (reduced-past places _ _ _ (search rules) (search rules))

pub overflow_shr-result : goal.overflow_shr-result
overflow_shr-result c = shift-lt places _ (search rules) (search rules)

pub returns-then-outcome : goal.returns-then-outcome
returns-then-outcome c =
    reduce-completed places _ (search rules) (search rules) c.completed-mask.ensures (one_shl (2 ^ places) _ (search rules))
    ∙ ap (reduced places _ _) (sym c.if-outcome.true)

pub overflow_shl-result : goal.overflow_shl-result
overflow_shl-result c = shift-lt places _ (search rules) (search rules)

pub returns : goal.returns
returns c =
    reduce-aborted places _ (search rules) (search rules) c.completed-mask.ensures c.complement-others.ensures (one_shl (2 ^ places) _ (search rules))
    ∙ ap (reduced places _ _) (sym c.if-outcome.false)
