-- Each answer is that of the tests before it.
use mathlib.Core.Path.{sym, ◌∙◌}
use native.Mathlib.Omega.{arith}
use Rattle.conditions.specs.Places.{places}
use Rattle.book.specs.Show.{held_line}
use Rattle.book.proofs.Laws.Sound.{test-sound}
use Rattle.book.proofs.Showing.{unsound-shown, none-shown, item-shown}
use Rattle.book.proofs.Book.show.Goals as goal

pub returns-then-not-is_sound : goal.returns-then-not-is_sound
returns-then-not-is_sound c =
    let both = unsound-shown c.args.self c.args.item c.args.buf.now (sym c.is_sound.ensures ∙ c.if-not-is_sound.true) in
    record { value = both.0; buf_after = both.1 }

pub returns-then-self-i : goal.returns-then-self-i
returns-then-self-i c =
    let both = none-shown c.args.self c.args.item c.args.buf.now (sym c.is_sound.ensures ∙ c.if-not-is_sound.false) (omega arith) in
    record { value = both.0; buf_after = both.1 }

pub bounds-self-i : goal.bounds-self-i
bounds-self-i c = omega (arith, c.if-self-i.false, (test-sound places c.args.self (sym c.is_sound.ensures ∙ c.if-not-is_sound.false)).few_items)

pub returns : goal.returns
unfolding held_line
returns c =
    let value = rw c.from-i.ensures at c.write_held.ensures.value in
    let buf_after = rw c.from-i.ensures at c.write_held.ensures.buf_after in
    let both = item-shown c.args.self c.args.item c.args.buf.now (sym c.is_sound.ensures ∙ c.if-not-is_sound.false) (omega arith) value buf_after in
    record { value = both.0; buf_after = both.1 }
