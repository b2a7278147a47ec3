-- "events: `01` steps n (1 byte) and 4n bytes; `02` ready, `03` give up, `06` hear: number (2), district (1); .." (document 01, The sheet and the program): an event of a sheet
-- is a call on the book, and the events that the program plays are a history.
use Rattle.std.specs.Prelude.{◌≡◌, List, [], ◌∷◌, ℕ, ◌-◌, take, drop, replicate}
use Rattle.conditions.specs.Text.{decimal}
use Rattle.book.specs.declared.Book.{Book}
use Rattle.book.specs.Begin.{begin}
use Rattle.book.specs.Show.{held_line}
use Rattle.sheet.specs.declared.events.Event.{Event}
use Rattle.sheet.specs.declared.events.Event.TheVariants.{Begin, Ready, GiveUp, Complete, Abort, Hear, Show}
use Rattle.sheet.specs.Lines.{lent_room}
use Rattle.sheet.specs.Play.{event_result}
use Rattle.demands.specs.Calls.{Call, begins_with, readies, gives_up, completes, aborts, hears, shows, answer_to, number_given, book_after, History, nothing, ◌then◌}

-- the call that an event of the sheet s asks for: a begin's steps stand in the sheet, and show is lent 65,536 bytes (zeros here: its answer asks only how many they are)
abbrev pub call_of : List ℕ → Event → Call
call_of s (Begin from to) = begins_with (take (to - from) (drop from s))
call_of s (Ready n d) = readies n.0 d
call_of s (GiveUp n d) = gives_up n.0 d
call_of s (Complete n) = completes n.0
call_of s (Abort n) = aborts n.0
call_of s (Hear n d) = hears n.0 d
call_of s (Show i) = shows i (replicate lent_room 0)

-- "an accepted begin prints number and grant, an accepted show the count of pairs and each `value:condition`": what the line of an accepted call says after its answer number
abbrev pub more_of : ℕ → Book → Call → List (List ℕ)
more_of w b (begins_with bytes) = decimal (number_given w b (begins_with bytes)) ∷ decimal (begin w b bytes).grant ∷ []
more_of w b (readies n d) = []
more_of w b (gives_up n d) = []
more_of w b (completes n) = []
more_of w b (aborts n) = []
more_of w b (hears n d) = []
more_of w b (shows i buf) = held_line w b i ∷ []

-- what the program makes of an event on the book b is what that call makes of it: the answer in its line, what stands after it, and the book that the next event takes
pub record IsCall (w : ℕ) (b : Book) (s : List ℕ) (e : Event) : Type 0 where
  pub answer : (event_result w b s e).answer ≡ answer_to w b (call_of s e)
  pub more : (event_result w b s e).more ≡ more_of w b (call_of s e)
  pub book : (event_result w b s e).book ≡ book_after w b (call_of s e)

-- the book that the program has once it has played these events of the sheet s, from the book b on
abbrev pub book_played : ℕ → Book → List ℕ → List Event → Book
book_played w b s [] = b
book_played w b s (e ∷ es) = book_played w (event_result w b s e).book s es

-- a history, and then the calls of these events
abbrev pub then_events : List ℕ → History → List Event → History
then_events s h [] = h
then_events s h (e ∷ es) = then_events s (h then call_of s e) es

-- the calls of these events alone
abbrev pub history_of : List ℕ → List Event → History
history_of s es = then_events s nothing es
