use borrow.Author.Rules.{rules}
use borrow.Author.Tests.{tests}
use Rattle.book.specs.SoundTest.{zero_record}
use Rattle.book.proofs.district_sound.zero_record.Goals as goal

pub returns : goal.returns
unfolding zero_record
returns c = search (tests, rules)
