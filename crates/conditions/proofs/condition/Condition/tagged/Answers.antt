-- No tag, a mask or its complement.
use mathlib.Core.Path.{ap}
use borrow.Author.Rules.{rules}
use Rattle.conditions.specs.Places.{places}
use Rattle.conditions.specs.Products.{tag_number}
use Rattle.conditions.proofs.Masks.{tag-absent, tag-completed, tag-aborted}
use Rattle.conditions.proofs.condition.Condition.tagged.Goals as goal

pub returns-in-Absent : goal.returns-in-Absent
returns-in-Absent c = tag-absent places _ _ (search rules) (ap tag_number c.in-Absent.is)

pub returns-in-Completed : goal.returns-in-Completed
returns-in-Completed c = tag-completed places _ _ (ap tag_number c.in-Completed.is) c.completed.ensures c.intersection.ensures

pub returns-in-Aborted : goal.returns-in-Aborted
returns-in-Aborted c =
    tag-aborted places _ _ (ap tag_number c.in-Aborted.is) c.completed-in-Aborted.ensures c.complement.ensures c.intersection-in-Aborted.ensures
