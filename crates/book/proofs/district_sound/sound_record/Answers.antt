-- The phase, then the transaction that it is on.
use borrow.Author.Rules.{rules}
use borrow.Author.Tests.{tests}
use mathlib.Core.Path.{sym, ◌∙◌}
use native.Mathlib.Omega.{arith}
use borrow.Author.Tests.{ne_eqb, le-leb, le-ltb}
use Rattle.conditions.specs.Places.{places}
use Rattle.book.proofs.Lists.{found_some, found_none}
use Rattle.book.specs.SoundTest.{sound_record, sound_busy}
use Rattle.book.specs.Book.{place_of}
use Rattle.book.proofs.district_sound.sound_record.Goals as goal

pub returns-then-x-gt-WAITING : goal.returns-then-x-gt-WAITING
unfolding sound_record sound_busy place_of
returns-then-x-gt-WAITING c = search (rules, tests)

pub returns-then-x-eq-IDLE : goal.returns-then-x-eq-IDLE
unfolding sound_record sound_busy place_of
returns-then-x-eq-IDLE c = search (rules, tests)

pub bounds-b-q : goal.bounds-b-q
unfolding sound_record sound_busy place_of
bounds-b-q c =
    let at = found_some places (place_of places c.args.b.now c.args.x.transaction.0) (sym c.place_of.ensures ∙ c.in-Some.is) in
    omega (arith, at.0, at.1)

pub offset_bounds-b-q : goal.offset_bounds-b-q
unfolding sound_record sound_busy place_of
offset_bounds-b-q c =
    let at = found_some places (place_of places c.args.b.now c.args.x.transaction.0) (sym c.place_of.ensures ∙ c.in-Some.is) in
    record { fits = omega (arith, at.0, at.1) }

pub returns-in-Some : goal.returns-in-Some
unfolding sound_record sound_busy place_of
returns-in-Some c =
    let at = found_some places (place_of places c.args.b.now c.args.x.transaction.0) (sym c.place_of.ensures ∙ c.in-Some.is) in
    c.sound_busy.ensures c.in-Some.q (omega (arith, at.0, at.1))
    ∙ rw (le-leb _ _ c.if-x-gt-WAITING.false, ne_eqb _ _ c.if-x-eq-IDLE.false, at.0)

pub returns-in-None : goal.returns-in-None
unfolding sound_record sound_busy place_of
returns-in-None c =
    let past = found_none places (place_of places c.args.b.now c.args.x.transaction.0) (sym c.place_of.ensures ∙ c.in-None.is) in
    rw (le-leb _ _ c.if-x-gt-WAITING.false, ne_eqb _ _ c.if-x-eq-IDLE.false, le-ltb _ _ past)
