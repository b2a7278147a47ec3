-- The masks are computed from their rule, and compared.
use borrow.Author.Rules.{rules}
use mathlib.Core.Path.{sym}
use Rattle.conditions.specs.Sets.{member, odd, set_of}
use Rattle.conditions.specs.Conditions.{completed}
use Rattle.conditions.specs.Places.{places}
use Rattle.conditions.proofs.Tabulated.{entry}
use Rattle.conditions.proofs.Laws.Conditions.{completed-past}
use Rattle.conditions.proofs.condition.Condition.completed.Goals as goal

pub returns-then-i-ge-PLACES : goal.returns-then-i-ge-PLACES
returns-then-i-ge-PLACES c = sym (completed-past places _ (search rules))

pub returns : goal.returns
unfolding completed set_of member odd
returns c = entry (completed places) places _ c.if-i-ge-PLACES.false
