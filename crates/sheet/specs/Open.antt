-- "Open. Only a good sheet opens a book" (document 01, Events), "13: sheet malformed", "14: sheet over 32,768 bytes" and "a call that makes a book returns, refused, the
-- all-zero book" (Answer numbers), "14 comes before 13, place 0" (The sheet and the program)
use Rattle.std.specs.Prelude.{Bool, cond, List, ℕ, ltb, length, Ok, Err}
use Rattle.book.specs.declared.Refusal.{Refusal}
use Rattle.book.specs.declared.Refusal.TheVariants.{Malformed, TooLong}
use Rattle.book.specs.Book.{no_book}
use Rattle.book.specs.Open.{opened}
use Rattle.sheet.specs.declared.opening.Opened.{Opened}
use Rattle.sheet.specs.Readers.{Read, wrong, right}
use Rattle.sheet.specs.Sections.{Sheet, sheet}

-- how many bytes a sheet may have
abbrev pub most_bytes : ℕ
most_bytes = 32768

-- "14: sheet over 32,768 bytes"
abbrev pub too_long : List ℕ → Bool
too_long s = ltb most_bytes (length s)

-- refused: the number and the place
unfoldable pub refused : ℕ → Refusal → ℕ → Opened
refused w r place = record { answer = Err r; place = place; book = no_book w; first = 0; count = 0 }

-- a sheet that was read: its book, where its first event stands, and how many there are
unfoldable pub opened_sheet : ℕ → Read Sheet → Opened
opened_sheet w (wrong place) = refused w Malformed place
opened_sheet w (right x at s) =
    record { answer = Ok tt; place = 0; book = opened w x.districts x.items; first = x.events.first; count = x.events.count }

-- the call: the sheet's bytes
unfoldable pub open_sheet : ℕ → List ℕ → Opened
open_sheet w s = cond (too_long s) (refused w TooLong 0) (opened_sheet w (sheet s))
