-- The loop's invariant: the items before x have heard.
use mathlib.Core.Path.{◌≡◌}
use Rattle.conditions.specs.Places.{places}
use Rattle.book.specs.declared.Book.{Book}
use Rattle.book.specs.Rows.{rows}
use Rattle.book.specs.Hear.{hear_item}
use Rattle.book.proofs.hear.hear_items.Given as goal

abbrev pub invariant-loop-x : goal.invariant-loop-x
invariant-loop-x l =
    (b : Book) → b.records ≡ l.records → l.x-items ≡ rows (λ i x. hear_item places b l.at.number.0 l.at.district l.at.place.0 l.completed x) l.x-index l.initial.x-items
