-- The district, then the item by whether its district is on a transaction.
use borrow.Author.Rules.{rules}
use borrow.Author.Tests.{tests}
use mathlib.Core.Path.{refl, sym, ap, ◌∙◌}
use Prim.Native.Nat.{ℕ}
use lib.Dec.{eqb}
use borrow.Author.Tests.{lt-ltb, ne_eqb}
use Rattle.conditions.specs.Places.{places}
use Rattle.book.proofs.Testing.{item_on-is, row-idle, row-taken}
use Rattle.book.specs.SoundTest.{sound_row}
use Rattle.book.proofs.item_sound.sound_row.Goals as goal

pub returns-then-b-from : goal.returns-then-b-from
unfolding sound_row
returns-then-b-from c = λ s. search (rules, tests)

pub returns-then-n-eq0 : goal.returns-then-n-eq0
unfolding sound_row
returns-then-n-eq0 c =
    λ s. c.sound_idle.ensures
    ∙ sym (row-idle places c.args.b.now c.args.x (rw (← c.from.ensures) (lt-ltb _ _ c.if-b-from.false)) (item_on-is c.args.b.now c.args.x refl c.district_on-n.ensures ∙ c.if-n-eq0.true))

pub returns-else-n-eq0 : goal.returns-else-n-eq0
unfolding sound_row
returns-else-n-eq0 c =
    λ s.
    let on = item_on-is c.args.b.now c.args.x refl c.district_on-n.ensures in
    rw (row-taken places c.args.b.now c.args.x (rw (← c.from.ensures) (lt-ltb _ _ c.if-b-from.false)) (ap (λ (n : ℕ). eqb n 0) on ∙ ne_eqb _ _ c.if-n-eq0.false), on) (c.sound_taken.ensures s)
