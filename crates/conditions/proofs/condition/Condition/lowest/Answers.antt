-- The zeros below the lowest 1 are counted.
use Rattle.conditions.specs.Places.{places}
use Rattle.conditions.proofs.Laws.Conditions.{trailing-lowest}
use Rattle.conditions.proofs.condition.Condition.lowest.Goals as goal

pub returns : goal.returns
returns c = trailing-lowest places _
