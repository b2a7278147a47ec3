-- `c & d` is the intersection.
use borrow.Author.Rules.{rules}
use Rattle.conditions.specs.Places.{places}
use Rattle.conditions.proofs.Masks.{and_is}
use Rattle.conditions.proofs.condition.Condition.intersection.Goals as goal

pub returns : goal.returns
returns c = and_is places _ _ (search rules)
