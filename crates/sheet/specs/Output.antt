-- "The program reads one sheet from standard input. A refused sheet prints only `sheet`, number, place. Otherwise each event prints .. Last line `end`." (document 01, The
-- sheet and the program): all that it prints, as one text.
use Rattle.std.specs.Prelude.{cond, List, [], ◌∷◌, ◌++◌, ℕ, suc, Err}
use Rattle.book.specs.declared.Refusal.TheVariants.{Malformed, TooLong}
use Rattle.book.specs.declared.Book.{Book}
use Rattle.book.specs.Open.{opened}
use Rattle.sheet.specs.declared.events.Event.{Event}
use Rattle.sheet.specs.Readers.{Read, wrong, right}
use Rattle.sheet.specs.Sections.{Sheet, sheet}
use Rattle.sheet.specs.Open.{too_long}
use Rattle.sheet.specs.Lines.{refusal_line, end_line}
use Rattle.sheet.specs.Play.{EventResult, event_result, result_line}

-- the lines of these events, on the book b, where the first has this position
unfoldable pub event_lines : ℕ → Book → List ℕ → ℕ → List Event → List ℕ
event_lines w b s position [] = []
event_lines w b s position (e ∷ es) =
    let x : EventResult = event_result w b s e in result_line position x ++ event_lines w x.book s (suc position) es

-- what is printed of the sheet s, as it was read
unfoldable pub printed : ℕ → List ℕ → Read Sheet → List ℕ
printed w s (wrong place) = refusal_line (Err Malformed) place
printed w s (right x at rest) = event_lines w (opened w x.districts x.items) s 1 x.events.each ++ end_line

-- the program: the sheet's bytes
unfoldable pub output : ℕ → List ℕ → List ℕ
output w s = cond (too_long s) (refusal_line (Err TooLong) 0) (printed w s (sheet s))
