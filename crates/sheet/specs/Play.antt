-- "Each later call takes the book that the call before it returned." (document 01, Events) "The line that show writes into its buffer runs from the count of pairs on, without
-- a line end; the program lends it 65,536 bytes." (The sheet and the program)
use Rattle.std.specs.Prelude.{cond, List, [], ◌∷◌, ℕ, ◌-◌, take, drop, replicate}
use Rattle.conditions.specs.Text.{decimal}
use Rattle.book.specs.Answers.{Answer}
use Rattle.book.specs.declared.Book.{Book}
use Rattle.book.specs.declared.Begun.{Begun}
use Rattle.book.specs.declared.Done.{Done}
use Rattle.book.specs.Begin.{begin}
use Rattle.book.specs.Ready.{ready}
use Rattle.book.specs.GiveUp.{give_up}
use Rattle.book.specs.Decide.{complete, abort}
use Rattle.book.specs.Hear.{hear}
use Rattle.book.specs.Show.{held_line, show_answer}
use Rattle.sheet.specs.declared.events.Event.{Event}
use Rattle.sheet.specs.declared.events.Event.TheVariants.{Begin, Ready, GiveUp, Complete, Abort, Hear, Show}
use Rattle.sheet.specs.declared.playing.Played.{Played}
use Rattle.sheet.specs.Lines.{event_line, lent_room, roomy, line_answer, line_written}

-- what an event comes to: its answer, what its line says after the answer number where it is accepted, and the book that it returns
pub record EventResult : Type 0 where
  pub answer : Answer
  pub more : List (List ℕ)
  pub book : Book

-- "an accepted begin prints number and grant"
abbrev pub of_begun : Begun → EventResult
of_begun r = record { answer = r.answer; more = decimal r.number.0 ∷ decimal r.grant ∷ []; book = r.book }

-- the other events on a transaction print nothing more
abbrev pub of_done : Done → EventResult
of_done r = record { answer = r.answer; more = []; book = r.book }

-- "an accepted show the count of pairs and each `value:condition`": the line that show writes. Its answer asks of the lent bytes only how many they are.
unfoldable pub of_show : ℕ → Book → ℕ → EventResult
of_show w b i = record { answer = show_answer w b i (replicate lent_room 0); more = held_line w b i ∷ []; book = b }

-- an event of the sheet s, on the book b
unfoldable pub event_result : ℕ → Book → List ℕ → Event → EventResult
event_result w b s (Begin from to) = of_begun (begin w b (take (to - from) (drop from s)))
event_result w b s (Ready n d) = of_done (ready w b n.0 d)
event_result w b s (GiveUp n d) = of_done (give_up w b n.0 d)
event_result w b s (Complete n) = of_done (complete w b n.0)
event_result w b s (Abort n) = of_done (abort w b n.0)
event_result w b s (Hear n d) = of_done (hear w b n.0 d)
event_result w b s (Show i) = of_show w b i

-- its line, where it is the event at this position
abbrev pub result_line : ℕ → EventResult → List ℕ
result_line position x = event_line position x.answer x.more

-- ---- the call

-- what the call answers, where the lent buffer is buf: a buffer that is too short leaves the book as it was
unfoldable pub played : ℕ → Book → List ℕ → Event → ℕ → List ℕ → Played
played w b s e position buf =
    let x : EventResult = event_result w b s e in
    record { written = line_answer buf (result_line position x); book = cond (roomy buf) x.book b }

-- the buffer afterwards
unfoldable pub played_buffer : ℕ → Book → List ℕ → Event → ℕ → List ℕ → List ℕ
played_buffer w b s e position buf = line_written buf (result_line position (event_result w b s e))
