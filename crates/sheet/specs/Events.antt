-- "events: `01` steps n (1 byte) and 4n bytes; `02` ready, `03` give up, `06` hear: number (2), district (1); `04` complete, `05` abort: number (2); `07` show: item (1)."
-- "Step counts, and the numbers, districts and items in events, are judged by the events." (document 01, The sheet and the program)
use Rattle.std.specs.Prelude.{cond, List, ℕ, ◌*◌, eqb, drop, Result, Ok, Err}
use Rattle.conditions.specs.declared.place.TransactionNumber.{TransactionNumber}
use Rattle.sheet.specs.declared.events.Event.{Event}
use Rattle.sheet.specs.declared.events.Event.TheVariants.{Begin, Ready, GiveUp, Complete, Abort, Hear, Show}
use Rattle.sheet.specs.declared.events.Found.{Found}
use Rattle.sheet.specs.declared.readers.Wrong.{Wrong}
use Rattle.sheet.specs.Readers.{Read, wrong, right, and_then, byte, word, part, any, between}

-- "steps n (1 byte) and 4n bytes": a begin tells where its program's bytes stand, from the one place up to the other
unfoldable pub program : ℕ → List ℕ → Read Event
program at s = and_then (byte any at s) (λ n from s. and_then (part (4 * n) from s) (λ steps to s. right (Begin from to) to s))

-- "number (2), district (1)"
unfoldable pub at_district : (TransactionNumber → ℕ → Event) → ℕ → List ℕ → Read Event
at_district event at s = and_then (word any at s) (λ n at s. and_then (byte any at s) (λ d at s. right (event (record { 0 = n }) d) at s))

-- "number (2)"
unfoldable pub on_number : (TransactionNumber → Event) → ℕ → List ℕ → Read Event
on_number event at s = and_then (word any at s) (λ n at s. right (event (record { 0 = n })) at s)

-- "item (1)"
unfoldable pub of_item : ℕ → List ℕ → Read Event
of_item at s = and_then (byte any at s) (λ i at s. right (Show i) at s)

-- what stands behind an event's kind, where it is one of these; hear is the one left
unfoldable pub fields : ℕ → ℕ → List ℕ → Read Event
fields kind at s =
    cond (eqb kind 1) (program at s)
    (cond (eqb kind 2) (at_district Ready at s)
    (cond (eqb kind 3) (at_district GiveUp at s)
    (cond (eqb kind 4) (on_number Complete at s)
    (cond (eqb kind 5) (on_number Abort at s)
    (cond (eqb kind 7) (of_item at s) (at_district Hear at s))))))

-- an event: a kind that is none of these is a wrong byte
unfoldable pub event : ℕ → List ℕ → Read Event
event at s = and_then (byte (between 1 7) at s) fields

-- as the code answers it: the event and the place behind it, or the place where there is none
abbrev pub answered : Read Event → Result Found Wrong
answered (wrong place) = Err (record { 0 = place })
answered (right e next s) = Ok (record { event = e; next = next })

-- the call: what stands at a place of the sheet s
unfoldable pub event_at : List ℕ → ℕ → Result Found Wrong
event_at s at = answered (event at (drop at s))
