-- The district, then held, then pending.
use borrow.Author.Rules.{rules}
use borrow.Author.Tests.{tests}
use borrow.Author.Tests.{eq-eqb}
use mathlib.Core.Bool.{and-false}
use mathlib.Core.Path.{sym, ◌∙◌}
use Rattle.polyvalues.proofs.Known.{Held}
use Rattle.book.proofs.Testing.{nothing-same}
use Rattle.book.specs.SoundTest.{same_item}
use Rattle.book.specs.Book.{no_item}
use Rattle.book.proofs.item_sound.zero_row.Goals as goal

pub returns-then-x-ne0 : goal.returns-then-x-ne0
unfolding same_item no_item
returns-then-x-ne0 c = search (tests, rules)

pub returns-then-is_nothing : goal.returns-then-is_nothing
unfolding same_item no_item
returns-then-is_nothing c =
    let held : Held c.args.x.held = record { values = _; own = c.well_formed.0.1.1.1.0 } in
    let pending : Held c.args.x.pending = record { values = _; own = c.well_formed.0.1.1.1.1.0 } in
    c.is_nothing-then-is_nothing.ensures ∙ nothing-same pending
    ∙ rw (eq-eqb _ _ c.if-x-ne0.false, sym (nothing-same held) ∙ sym c.is_nothing.ensures ∙ c.if-is_nothing.true)

pub returns-else-is_nothing : goal.returns-else-is_nothing
unfolding same_item no_item
returns-else-is_nothing c =
    let held : Held c.args.x.held = record { values = _; own = c.well_formed.0.1.1.1.0 } in
    c.if-is_nothing.false ∙ rw (sym (nothing-same held) ∙ sym c.is_nothing.ensures ∙ c.if-is_nothing.false, and-false)
