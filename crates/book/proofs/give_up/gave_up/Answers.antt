-- The items one after the other, then the record, and the mark where it was computing.
use mathlib.Core.Path.{refl, sym, ◌∙◌}
use Rattle.conditions.specs.Places.{places}
use Rattle.book.specs.GiveUp.{gave_up}
use Rattle.book.proofs.Laws.Sound.{test-sound}
use Rattle.book.proofs.Laws.Room.{split-together}
use Rattle.book.proofs.Doing.{district-row}
use Rattle.book.proofs.give_up.gave_up.Goals as goal

pub bounds-b-d : goal.bounds-b-d
bounds-b-d c = rw c.from-d.ensures (district-row places c.args.b c.requires.sound c.requires.district)

pub give_up_items-requires : goal.give_up_items-requires
give_up_items-requires c =
    let s = test-sound places c.args.b c.requires.sound in
    record { few = s.few_items; small = split-together places c.args.b s }

pub bounds-b-d-2 : goal.bounds-b-d-2
bounds-b-d-2 c = rw c.from-d.ensures (district-row places c.args.b c.requires.sound c.requires.district)

pub including-requires : goal.including-requires
including-requires c = rw c.from-d.ensures (district-row places c.args.b c.requires.sound c.requires.district)

pub returns-else-computing : goal.returns-else-computing
unfolding gave_up
returns-else-computing c =
    let known = rw c.from-d.ensures at (sym c.computing_on-computing.ensures ∙ c.if-computing.false) in
    rw (c.give_up_items.ensures c.args.b refl, c.rest.ensures, c.from-d.ensures, ← c.requires.place, known, c.if-computing.false)

pub returns-then-computing : goal.returns-then-computing
unfolding gave_up
returns-then-computing c =
    let known = rw c.from-d.ensures at (sym c.computing_on-computing.ensures ∙ c.if-computing.true) in
    rw (c.give_up_items.ensures c.args.b refl, c.including.ensures, c.rest.ensures, c.from-d.ensures, ← c.requires.place, known, c.if-computing.true)
