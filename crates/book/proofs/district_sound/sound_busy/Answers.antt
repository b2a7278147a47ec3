use borrow.Author.Rules.{rules}
use borrow.Author.Tests.{tests}
use Rattle.book.specs.SoundTest.{sound_busy}
use Rattle.book.proofs.district_sound.sound_busy.Goals as goal

pub returns-then-not-has : goal.returns-then-not-has
unfolding sound_busy
returns-then-not-has c = λ q h. search (rules, tests)

pub returns-then-is_waiting : goal.returns-then-is_waiting
unfolding sound_busy
returns-then-is_waiting c = λ q h. search (rules, tests)

pub returns-then-not-has-2 : goal.returns-then-not-has-2
unfolding sound_busy
returns-then-not-has-2 c = λ q h. search (rules, tests)

pub returns-else-not-has-2 : goal.returns-else-not-has-2
unfolding sound_busy
returns-else-not-has-2 c = λ q h. search (rules, tests)
