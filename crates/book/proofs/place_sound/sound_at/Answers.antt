-- Touched or not, ready or not.
use borrow.Author.Rules.{rules}
use borrow.Author.Tests.{tests}
use Rattle.book.proofs.Testing.{at-cases}
use Rattle.book.specs.SoundTest.{sound_at}
use Rattle.book.proofs.place_sound.sound_at.Goals as goal

pub returns-then-ready : goal.returns-then-ready
unfolding sound_at
returns-then-ready c = rw at-cases (search (rules, tests))

pub returns-else-ready : goal.returns-else-ready
unfolding sound_at
returns-else-ready c = rw at-cases (search (rules, tests))

pub returns-then-not-ready : goal.returns-then-not-ready
unfolding sound_at
returns-then-not-ready c = rw at-cases (search (rules, tests))

pub returns-else-not-ready : goal.returns-else-not-ready
unfolding sound_at
returns-else-not-ready c = rw at-cases (search (rules, tests))
