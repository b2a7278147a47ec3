-- The mask of the place chooses between the two.
use borrow.Author.Rules.{rules}
use Rattle.conditions.specs.Places.{places}
use Rattle.conditions.proofs.Masks.{select-is}
use Rattle.conditions.proofs.condition.Condition.select.Goals as goal

pub returns : goal.returns
returns c = select-is places _ (search rules) (search rules) c.completed-mask.ensures c.complement-others.ensures
