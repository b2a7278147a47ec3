-- "Sections in a fixed order, each after its count" (document 01, The sheet and the program)
use Rattle.std.specs.Prelude.{List, [], ℕ, ltb, ℤ}
use Rattle.polyvalues.specs.Values.{in_range, signed}
use Rattle.book.specs.declared.Opening.{Opening}
use Rattle.book.specs.Book.{most_districts, most_items}
use Rattle.sheet.specs.declared.events.Event.{Event}
use Rattle.sheet.specs.Readers.{Read, right, and_then, repeat, one_more, byte, word, end, any, between}
use Rattle.sheet.specs.Events.{event}

-- ---- "1. count (1 byte, 1 to 8), then a district code each (1 byte, 1 to 255, strictly rising)"

-- a code is above the one before it; that it is at most 255 is what a byte can hold
unfoldable pub code : ℕ → ℕ → List ℕ → Read ℕ
code last at s = byte (λ c. ltb last c) at s

-- the count of districts: the first code is above 0, and codes are not kept
unfoldable pub districts : ℕ → List ℕ → Read ℕ
districts at s = and_then (byte (between 1 most_districts) at s) (λ n at s. and_then (repeat n code 0 at s) (λ last at s. right n at s))

-- ---- "2. count (1 byte, 1 to 32), then district number, below the first count, and value (1 + 2 bytes, two's complement, high byte first)"

-- a value
unfoldable pub value : ℕ → List ℕ → Read ℤ
value at s = and_then (word (λ n. in_range (signed n)) at s) (λ n at s. right (signed n) at s)

-- an item, where there are so many districts
unfoldable pub item : ℕ → ℕ → List ℕ → Read Opening
item count at s =
    and_then (byte (λ d. ltb d count) at s) (λ d at s.
    and_then (value at s) (λ v at s. right (record { district = d; value = v }) at s))

-- the items
unfoldable pub items : ℕ → ℕ → List ℕ → Read (List Opening)
items count at s = and_then (byte (between 1 most_items) at s) (λ n at s. repeat n (one_more (item count)) [] at s)

-- ---- "3. count (2 bytes, high first; 0 allowed), then events"

-- the count of events, where the first of them stands, and each
pub record Events : Type 0 where
  pub count : ℕ
  pub first : ℕ
  pub each : List Event

-- the events
unfoldable pub events : ℕ → List ℕ → Read Events
events at s =
    and_then (word any at s) (λ n first s.
    and_then (repeat n (one_more event) [] first s) (λ es at s. right (record { count = n; first = first; each = es }) at s))

-- ---- the whole sheet

-- what a sheet says
pub record Sheet : Type 0 where
  pub districts : ℕ
  pub items : List Opening
  pub events : Events

-- "The sheet is read whole before any event."
unfoldable pub sheet : List ℕ → Read Sheet
sheet s =
    and_then (districts 0 s) (λ n at s.
    and_then (items n at s) (λ xs at s.
    and_then (events at s) (λ es at s. end (record { districts = n; items = xs; events = es }) at s)))
