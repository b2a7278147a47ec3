-- What a reader of the code answers: what was read, or the place that is wrong. It leaves the sheet as it is, and its place afterwards is the one behind what was read.
use Rattle.std.specs.Prelude.{◌≡◌, List, ℕ, drop, Result, Ok, Err}
use Rattle.book.specs.Openings.{openings_of}
use Rattle.sheet.specs.declared.events.Event.{Event}
use Rattle.sheet.specs.declared.events.Found.{Found}
use Rattle.sheet.specs.declared.sections.EventsAt.{EventsAt}
use Rattle.sheet.specs.declared.sections.Sheet.{Sheet as Kept}
use Rattle.sheet.specs.declared.readers.Reader.{Reader}
use Rattle.sheet.specs.declared.readers.Wrong.{Wrong}
use Rattle.sheet.specs.Readers.{Read, wrong, right}
use Rattle.sheet.specs.Sections.{Events, Sheet}

-- the bytes that are left
abbrev pub left : Reader → List ℕ
left r = drop r.at r.sheet.now

-- what the answer tells, where r is the reader afterwards, and f makes of what the code keeps what was read
abbrev pub told : {T A : Type 0} → (T → A) → Reader → Result T Wrong → Read A
told f r (Ok x) = right (f x) r.at (left r)
told f r (Err e) = wrong e.0

-- the answer x is what this reader of the definitions says, at the reader that was before and is after
pub record ReadsAs {T A : Type 0} (f : T → A) (reader : ℕ → List ℕ → Read A) (before after : Reader) (x : Result T Wrong) : Type 0 where
  pub told : reader before.at (left before) ≡ told f after x
  pub kept : after.sheet.now ≡ before.sheet.now

-- where the code keeps just what was read
abbrev pub Reads : {A : Type 0} → (ℕ → List ℕ → Read A) → Reader → Reader → Result A Wrong → Type 0
Reads reader before after x = ReadsAs (λ y. y) reader before after x

-- what the code keeps of the events and of a sheet: the events themselves, which it reads again as they are played, are es
abbrev pub events_of : EventsAt → List Event → Events
events_of x es = record { count = x.count; first = x.first; each = es }

abbrev pub sheet_of : Kept → List Event → Sheet
sheet_of x es = record { districts = x.districts; items = openings_of x.items; events = events_of x.events es }

-- what is told of an event that was asked for by its place in the sheet s
abbrev pub told_event : List ℕ → Result Found Wrong → Read Event
told_event s (Ok x) = right x.event x.next (drop x.next s)
told_event s (Err e) = wrong e.0
