-- `c | d` is the union.
use borrow.Author.Rules.{rules}
use Rattle.conditions.specs.Places.{places}
use Rattle.conditions.proofs.Masks.{or_is}
use Rattle.conditions.proofs.condition.Condition.union.Goals as goal

pub returns : goal.returns
returns c = or_is places _ _ (search rules) (search rules)
