-- The record, and then the items one after the other.
use mathlib.Core.Path.{refl}
use Rattle.conditions.specs.Places.{places}
use Rattle.book.specs.Hear.{heard}
use Rattle.book.proofs.Laws.Sound.{test-sound}
use Rattle.book.proofs.Doing.{district-row}
use Rattle.book.proofs.hear.heard.Goals as goal

pub hear_items-requires : goal.hear_items-requires
hear_items-requires c = (test-sound places c.args.b c.requires.sound).few_items

pub bounds-b-from : goal.bounds-b-from
bounds-b-from c = rw c.from.ensures (district-row places c.args.b c.requires.sound c.requires.district)

pub returns : goal.returns
unfolding heard
returns c = rw (c.hear_items.ensures c.args.b refl, c.is_completed-completed.ensures, c.hear.ensures, c.from.ensures, ← c.requires.place)
