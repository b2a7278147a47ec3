-- "The program reads one sheet from standard input. A refused sheet prints only `sheet`, number, place. Otherwise each event prints .. Last line `end`." (document 01, The
-- sheet and the program): what the program's main makes of the calls. It opens the sheet, and then takes each event with event_at from the place behind the one before it,
-- and plays it on the book that the one before it left. Laws/Walk shows that this is `output`.
use Rattle.std.specs.Prelude.{◌≡◌, cond, List, [], ◌∷◌, ◌++◌, ℕ, zero, suc, length, Result, Ok, Err}
use Rattle.book.specs.declared.Book.{Book}
use Rattle.book.specs.Answers.{accepted}
use Rattle.sheet.specs.declared.events.Event.{Event}
use Rattle.sheet.specs.declared.events.Found.{Found}
use Rattle.sheet.specs.declared.readers.Wrong.{Wrong}
use Rattle.sheet.specs.declared.opening.Opened.{Opened}
use Rattle.sheet.specs.Events.{event_at}
use Rattle.sheet.specs.Sections.{Events}
use Rattle.sheet.specs.Open.{open_sheet}
use Rattle.sheet.specs.Lines.{refusal_line, end_line}
use Rattle.sheet.specs.Play.{EventResult, event_result, result_line}

-- where there is an event, what is printed from it on; where there is none, nothing more: `AsRead` shows that a sheet that opened has all that it counts
abbrev pub from_event : Result Found Wrong → (Event → ℕ → List ℕ) → List ℕ
from_event (Ok x) print = print x.event x.next
from_event (Err e) print = []

-- n events more of the sheet s and the last line, where the book is b and the first of them has this position and stands at this place
unfoldable pub printed_from : ℕ → List ℕ → ℕ → Book → ℕ → ℕ → List ℕ
printed_from w s zero b position at = end_line
printed_from w s (suc n) b position at =
    from_event (event_at s at) (λ e next. let x : EventResult = event_result w b s e in result_line position x ++ printed_from w s n x.book (suc position) next)

-- the program: the sheet's bytes
unfoldable pub by_calls : ℕ → List ℕ → List ℕ
by_calls w s =
    let o : Opened = open_sheet w s in
    cond (accepted o.answer) (printed_from w s o.count o.book 1 o.first) (refusal_line o.answer o.place)

-- these events stand in the sheet s one behind the other, the first at this place
abbrev pub Stand : List ℕ → ℕ → List Event → Type 0
Stand s at [] = Unit {0}
Stand s at (e ∷ es) = (next : ℕ) × (event_at s at ≡ Ok (record { event = e; next = next })) × Stand s next es

-- the events that reading a sheet gave are as many as it counts, and what event_at finds from the first on: none of them is wrong
pub record AsRead (s : List ℕ) (x : Events) : Type 0 where
  pub many : length x.each ≡ x.count
  pub found : Stand s x.first x.each
