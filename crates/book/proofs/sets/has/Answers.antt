-- A district past the last one is in no set, and any other is tested.
use borrow.Author.Rules.{rules}
use borrow.Author.Tests.{tests}
use Rattle.book.specs.Book.{most_districts}
use Rattle.conditions.proofs.Laws.Sets.{member-past, member-test}
use Rattle.book.proofs.sets.has.Goals as goal

pub returns-then-d-lt-DISTRICTS : goal.returns-then-d-lt-DISTRICTS
returns-then-d-lt-DISTRICTS c = member-test _ _

pub returns-else-d-lt-DISTRICTS : goal.returns-else-d-lt-DISTRICTS
returns-else-d-lt-DISTRICTS c = search (rules, tests, member-past most_districts)
