-- The halves of a set, and what both have.
use mathlib.Core.Path.{ap}
use borrow.Author.Rules.{rules}
use Prim.Native.Nat.{◌^◌}
use Rattle.conditions.specs.Places.{places}
use Rattle.conditions.specs.Products.{tag_number}
use Rattle.conditions.proofs.Laws.Sets.{one_shl}
use Rattle.conditions.proofs.Masks.{shift-lt}
use Rattle.conditions.proofs.Skipping.{half-some, leaves-both, leaves-high, leaves-low}
use Rattle.conditions.proofs.product.narrowed.Goals as goal

pub overflow_shr-done : goal.overflow_shr-done
overflow_shr-done c = shift-lt places _ (search rules) (search rules)

pub overflow_shl-mask : goal.overflow_shl-mask
overflow_shl-mask c = shift-lt places _ (search rules) (search rules)

pub overflow_sub-mask : goal.overflow_sub-mask
overflow_sub-mask c = half-some places _ (search rules) (one_shl (2 ^ places) c.args.i (search rules))

pub returns-in-Absent : goal.returns-in-Absent
returns-in-Absent c = leaves-both places _ _ (search rules) (one_shl (2 ^ places) _ (search rules)) (ap tag_number c.in-Absent.is)

pub returns-in-Completed : goal.returns-in-Completed
returns-in-Completed c = leaves-high _ _ (one_shl (2 ^ places) _ (search rules)) (ap tag_number c.in-Completed.is)

pub returns-in-Aborted : goal.returns-in-Aborted
returns-in-Aborted c = leaves-low places _ _ (search rules) (one_shl (2 ^ places) _ (search rules)) (ap tag_number c.in-Aborted.is)
