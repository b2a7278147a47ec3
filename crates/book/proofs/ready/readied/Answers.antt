-- One record and one place.
use Rattle.conditions.specs.Places.{places}
use Rattle.book.specs.Ready.{readied}
use Rattle.book.proofs.Doing.{district-row}
use Rattle.book.proofs.ready.readied.Goals as goal

pub bounds-b-d : goal.bounds-b-d
bounds-b-d c = rw c.from-d.ensures (district-row places c.args.b c.requires.sound c.requires.district)

pub including-requires : goal.including-requires
including-requires c = rw c.from-d.ensures (district-row places c.args.b c.requires.sound c.requires.district)

pub returns : goal.returns
unfolding readied
returns c = rw (c.including.ensures, c.wait.ensures, c.from-d.ensures, ← c.requires.place)
