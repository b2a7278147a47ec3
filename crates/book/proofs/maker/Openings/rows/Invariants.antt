-- The loop's invariant: the first i rows are filled.
use mathlib.Core.Path.{◌≡◌}
use Rattle.conditions.specs.Places.{places}
use Rattle.book.specs.Book.{most_items, no_item}
use Rattle.book.specs.Open.{opened_item}
use Rattle.book.proofs.Filling.{filled_upto}
use Rattle.book.proofs.maker.Openings.rows.Given as goal

abbrev pub invariant-loop-i : goal.invariant-loop-i
invariant-loop-i l = l.rows ≡ filled_upto (opened_item places) no_item most_items l.i l.items
