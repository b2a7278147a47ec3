-- Open, or free.
use mathlib.Core.Path.{sym, ap, ◌∙◌}
use mathlib.Core.Bool.{not}
use native.Mathlib.Omega.{arith}
use borrow.Author.Tests.{eq-eqb, ne_eqb}
use Rattle.book.specs.SoundTest.{sound_place}
use Rattle.book.proofs.place_sound.sound_place.Goals as goal

pub offset_bounds-t-q : goal.offset_bounds-t-q
unfolding sound_place
offset_bounds-t-q c = record { fits = omega (arith, c.requires) }

pub bounds-t-q : goal.bounds-t-q
unfolding sound_place
bounds-t-q c = c.requires

pub returns-then-o-ne0 : goal.returns-then-o-ne0
unfolding sound_place
returns-then-o-ne0 c = λ b o. c.sound_open.ensures b o ∙ rw (o.places, ne_eqb _ _ c.if-o-ne0.true)

pub returns-then-zero_open : goal.returns-then-zero_open
unfolding sound_place
returns-then-zero_open c = λ b o. ap not (c.has.ensures ∙ o.depended c.args.q c.requires)
    ∙ rw (o.places, eq-eqb _ _ c.if-o-ne0.false, sym c.zero_open.ensures ∙ c.if-zero_open.true)

pub returns-else-zero_open : goal.returns-else-zero_open
unfolding sound_place
returns-else-zero_open c = λ b o. c.if-zero_open.false ∙ rw (o.places, eq-eqb _ _ c.if-o-ne0.false, sym c.zero_open.ensures ∙ c.if-zero_open.false)
