-- Each answer is that of the tests before it.
use mathlib.Core.Path.{◌∙◌, sym, ap}
use mathlib.Core.List.{◌++◌, map}
use Prim.Native.Nat.{ℕ, ◌-◌}
use lib.ListN.{replicate}
use Rattle.book.specs.Book.{most_items, no_item}
use Rattle.book.specs.Open.{opened_item}
use Rattle.book.specs.Openings.{openings_of}
use Rattle.conditions.specs.Places.{places}
use Rattle.book.proofs.Laws.Openings.{too_many_rows}
use Rattle.book.proofs.Making.{Held, openings-count, opens-none, opens_one}
use Rattle.book.proofs.maker.opened.Goals as goal

pub returns-then-items-gt-ITEMS : goal.returns-then-items-gt-ITEMS
returns-then-items-gt-ITEMS c = c.zero_book.ensures ∙ sym (too_many_rows places c.args.districts c.args.items c.if-items-gt-ITEMS.true)

pub returns-then-not-open_a_book : goal.returns-then-not-open_a_book
returns-then-not-open_a_book c = opens-none c.args.districts c.args.items c.if-items-gt-ITEMS.false c.zero_book-then-not-open_a_book.ensures (sym c.open_a_book.ensures ∙ c.if-not-open_a_book.true)

pub returns : goal.returns
returns c =
    let held : Held c.args.items = record { values = _; own = c.well_formed.1.0 } in
    let count = openings-count held c.if-items-gt-ITEMS.false in
    opens_one c.args.districts c.args.items c.if-items-gt-ITEMS.false c.zero_book-2.ensures count (sym c.open_a_book.ensures ∙ c.if-not-open_a_book.false)
    (c.rows.ensures ∙ ap (λ (n : ℕ). map (opened_item places) (openings_of c.args.items) ++ replicate (most_items - n) no_item) count)
