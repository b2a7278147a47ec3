-- `!c` is the complement.
use borrow.Author.Rules.{rules}
use Rattle.conditions.specs.Places.{places}
use Rattle.conditions.proofs.Masks.{not_is}
use Rattle.conditions.proofs.condition.Condition.complement.Goals as goal

pub returns : goal.returns
returns c = not_is places _ (search rules)
