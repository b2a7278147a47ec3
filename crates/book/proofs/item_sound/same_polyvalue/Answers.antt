-- The counts, then all rows.
use mathlib.Core.Path.{◌∙◌}
use borrow.Author.Tests.{eq-eqb, ne_eqb}
use Rattle.polyvalues.proofs.Known.{Held}
use Rattle.book.specs.SoundTest.{same_polyvalue}
use Rattle.book.proofs.Testing.{whole_same}
use Rattle.book.proofs.item_sound.same_polyvalue.Goals as goal

pub returns-then-q-other : goal.returns-then-q-other
unfolding same_polyvalue
returns-then-q-other c = rw (ne_eqb _ _ c.if-q-other.true)

pub returns : goal.returns
unfolding same_polyvalue
returns c =
    let held : Held c.args.q = record { values = _; own = c.well_formed.0 } in
    let other : Held c.args.other = record { values = _; own = c.well_formed.1.0 } in
    c.same.ensures ∙ whole_same held other ∙ rw (eq-eqb _ _ c.if-q-other.false)
