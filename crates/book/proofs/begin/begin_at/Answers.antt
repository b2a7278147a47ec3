-- Where there are not too many values, all alternatives are worked out.
use mathlib.Core.Path.{sym, ap, ◌∙◌}
use Rattle.book.specs.declared.begin.Room.{Room}
use native.Mathlib.Omega.{arith}
use Rattle.conditions.specs.Places.{places}
use Rattle.std.specs.Prelude.{Ok}
use Rattle.book.specs.Begin.{begun}
use Rattle.book.specs.States.{steps_of}
use Rattle.book.proofs.Known.{Held, records-long, items-long, open-long}
use Rattle.book.proofs.Laws.Sound.{test-sound}
use Rattle.book.proofs.Laws.Needing.{begin-forgets-none}
use Rattle.book.proofs.begin.begin_at.Goals as goal

pub returns-in_default : goal.returns-in_default
returns-in_default c = rw c.in_default.ensures c.refused.ensures

pub too_many-requires-clause-count_le_most_items : goal.too_many-requires-clause-count_le_most_items
too_many-requires-clause-count_le_most_items c = (test-sound places c.args.b c.requires.b_value.0).few_items

pub returns-then-too_many : goal.returns-then-too_many
returns-then-too_many c = rw (sym c.too_many.ensures ∙ c.if-too_many.true) c.refused-then-too_many.ensures

pub begun-after-requires-clause-districts_le_most_districts : goal.begun-after-requires-clause-districts_le_most_districts
begun-after-requires-clause-districts_le_most_districts c =
    let pre = c.requires in
    let s = test-sound places c.args.b pre.b_value.0 in
    (s.few_districts, s.few_items, pre.room_value.2)

pub returns : goal.returns
unfolding begun
returns c =
    let b = c.args.b in
    let pre = c.requires in
    let held : Held b = record { values = _; own = c.well_formed.0 } in
    let few = sym c.too_many.ensures ∙ c.if-too_many.false in
    let granted = c.granted-grant.ensures ∙ c.in-Some.ensures.granted in
    let left = c.begun-after.ensures ∙ sym (begin-forgets-none places b (steps_of c.args.p) (test-sound places b pre.b_value.0) pre.b_value.1 (omega (arith, ap (λ (r : Room). r.place) pre.room_value.0, pre.room_value.1)) (records-long held) (items-long held) (open-long held)) in
    rw few (λ k. record { answer = Ok tt; number = (c.begun-after.ensures k).last; grant = granted k; book = left k })
