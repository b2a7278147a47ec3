-- One test after the other.
use mathlib.Core.Bool.{and-false}
use mathlib.Core.Path.{sym, ◌∙◌}
use native.Mathlib.Omega.{arith}
use borrow.Author.Tests.{le-leb, lt-leb}
use Rattle.book.specs.SoundTest.{sound_open}
use Rattle.book.proofs.place_sound.sound_open.Goals as goal

pub is_within-requires : goal.is_within-requires
is_within-requires c = c.args.t.few

pub returns-then-not-is_within : goal.returns-then-not-is_within
unfolding sound_open
returns-then-not-is_within c b o = rw (o.districts, o.places, o.last, sym c.is_within.ensures ∙ c.if-not-is_within.true)

pub is_within-requires-2 : goal.is_within-requires-2
is_within-requires-2 c = c.args.t.few

pub returns-then-not-is_within-2 : goal.returns-then-not-is_within-2
unfolding sound_open
returns-then-not-is_within-2 c b o = rw (o.districts, o.places, o.last, sym c.is_within-2.ensures ∙ c.if-not-is_within-2.true, and-false)

pub is_within-requires-3 : goal.is_within-requires-3
is_within-requires-3 c = c.args.t.few

pub returns-then-not-is_within-3 : goal.returns-then-not-is_within-3
unfolding sound_open
returns-then-not-is_within-3 c b o = rw (o.districts, o.places, o.last, sym c.is_within-3.ensures ∙ c.if-not-is_within-3.true, and-false)

pub returns-then-o-gt-ABORTED : goal.returns-then-o-gt-ABORTED
unfolding sound_open
returns-then-o-gt-ABORTED c b o = rw (o.districts, o.places, o.last, lt-leb _ _ c.if-o-gt-ABORTED.true, and-false)

pub number_differs-requires : goal.number_differs-requires
number_differs-requires c = omega (arith, c.requires)

pub returns-then-not-number_differs : goal.returns-then-not-number_differs
unfolding sound_open
returns-then-not-number_differs c b o = rw (o.districts, o.places, o.last, sym c.number_differs.ensures ∙ c.if-not-number_differs.true, and-false)

pub returns-then-t-o : goal.returns-then-t-o
unfolding sound_open
returns-then-t-o c b o = rw (o.districts, o.places, o.last, lt-leb _ _ c.if-t-o.true, and-false)

pub returns-then-not-is_kept : goal.returns-then-not-is_kept
unfolding sound_open
returns-then-not-is_kept c b o = rw (sym (c.is_kept.ensures b o) ∙ c.if-not-is_kept.true, and-false)

pub returns : goal.returns
unfolding sound_open
returns c b o =
    c.sound_sets.ensures
    ∙ rw (
      sym (c.is_kept.ensures b o) ∙ c.if-not-is_kept.false,
      o.districts,
      o.places,
      o.last,
      sym c.is_within.ensures ∙ c.if-not-is_within.false,
      sym c.is_within-2.ensures ∙ c.if-not-is_within-2.false,
      sym c.is_within-3.ensures ∙ c.if-not-is_within-3.false,
      le-leb _ _ c.if-o-gt-ABORTED.false,
      sym c.number_differs.ensures ∙ c.if-not-number_differs.false,
      le-leb _ _ c.if-t-o.false,
    )
