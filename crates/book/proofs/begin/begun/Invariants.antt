-- The loop's invariant: the touched items before i have their results pending.
use mathlib.Core.Path.{◌≡◌}
use Rattle.conditions.specs.Places.{places}
use Rattle.book.specs.Rows.{rows}
use Rattle.book.specs.Book.{with_items}
use Rattle.book.specs.Begin.{begin_item}
use Rattle.book.specs.States.{steps_of}
use Rattle.book.proofs.begin.begun.Given as goal

abbrev pub invariant-loop-i : goal.invariant-loop-i
invariant-loop-i l = l.b ≡ with_items l.initial.b (rows (begin_item places l.initial.b (steps_of l.p)) l.i l.initial.b.items)
