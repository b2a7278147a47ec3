use mathlib.Core.Path.{◌≡◌, refl, sym, ◌∙◌}
use native.Mathlib.Numerals.{add-one}
use native.Mathlib.Omega.{arith}
use Rattle.conditions.specs.Below.{all}
use Rattle.conditions.proofs.Laws.Below.{all_more, all-fails}
use Rattle.conditions.specs.Places.{places}
use Rattle.book.proofs.place_sound.sound_places.Goals as goal

pub loop-q-init : goal.loop-q-init
unfolding all
loop-q-init c = λ b o. refl

pub sound_place-requires : goal.sound_place-requires
sound_place-requires c = omega arith

pub returns-then-not-sound_place : goal.returns-then-not-sound_place
returns-then-not-sound_place c = λ b o. sym (all-fails _ _ c.loop-q.q (omega arith) (sym (c.sound_place.ensures b o) ∙ c.if-not-sound_place.true))

pub loop-q-preserved : goal.loop-q-preserved
loop-q-preserved c = λ b o. rw add-one (all_more _ _ (c.loop-q.invariant b o) (sym (c.sound_place.ensures b o) ∙ c.if-not-sound_place.false))

pub returns : goal.returns
returns c = λ b o. let last : c.loop-q.q ≡ places = omega arith in sym (rw last at (c.loop-q.invariant b o))
