-- The one empty condition is written 0.
use mathlib.Core.Path.{sym}
use borrow.Author.Rules.{rules}
use Rattle.conditions.specs.Places.{places}
use Rattle.conditions.proofs.Laws.Conditions.{empty-zero}
use Rattle.conditions.proofs.condition.Condition.is_empty.Goals as goal

pub returns : goal.returns
returns c = sym (empty-zero places _ (search rules))
