use borrow.Author.Rules.{rules}
use borrow.Author.Tests.{tests}
use Rattle.book.specs.SoundTest.{zero_open}
use Rattle.book.proofs.place_sound.zero_open.Goals as goal

pub returns : goal.returns
unfolding zero_open
returns c = search (tests, rules)
