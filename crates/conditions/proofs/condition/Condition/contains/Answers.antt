-- A bit past the last assignment is none, and any other is tested.
use Prim.Native.Nat.{◌^◌}
use borrow.Author.Rules.{rules}
use mathlib.Core.Path.{sym, ◌∙◌}
use borrow.Author.Tests.{le-ltb}
use Rattle.conditions.specs.Places.{places}
use Rattle.conditions.proofs.Laws.Sets.{member-past, member-test}
use Rattle.conditions.proofs.condition.Condition.contains.Goals as goal

pub returns-then-assignment-lt-ASSIGNMENTS : goal.returns-then-assignment-lt-ASSIGNMENTS
returns-then-assignment-lt-ASSIGNMENTS c = member-test _ _

pub returns-else-assignment-lt-ASSIGNMENTS : goal.returns-else-assignment-lt-ASSIGNMENTS
returns-else-assignment-lt-ASSIGNMENTS c = le-ltb _ _ c.if-assignment-lt-ASSIGNMENTS.false ∙ sym (member-past (2 ^ places) _ _ (search rules) (search rules))
