-- The loop's invariant: the places before q are as they are to be.
use mathlib.Core.Path.{◌≡◌}
use Rattle.conditions.specs.Places.{places as width}
use Rattle.book.specs.Rows.{rows}
use Rattle.book.specs.Forget.{remembered}
use Rattle.book.specs.Tables.{TablesOf}
use Rattle.book.specs.declared.Book.{Book}
use Rattle.book.proofs.forget.remembered_places.Given as goal

abbrev pub invariant-loop-q : goal.invariant-loop-q
invariant-loop-q l = (b : Book) → TablesOf width b l.t → l.o-items ≡ rows (remembered width b) l.q l.initial.o-items
