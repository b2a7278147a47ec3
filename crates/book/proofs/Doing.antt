-- What the events on a transaction need of a sound book: an event keeps the counts, and so forgetting may follow it.
use mathlib.Core.Path.{◌≡◌}
use mathlib.Core.Bool.{true}
use Prim.Native.Nat.{ℕ, ◌≤◌, ◌<◌}
use native.Mathlib.Nat.{lt_of_lt_of_le}
use Rattle.std.specs.Prelude.{Ok}
use Rattle.book.specs.declared.Book.{Book}
use Rattle.book.specs.declared.Done.{Done}
use Rattle.book.specs.Book.{most_districts, most_items}
use Rattle.book.specs.SoundTest.{sound}
use Rattle.book.proofs.Laws.Sound.{test-sound}

-- an accepted event
abbrev pub accepts : Book → Done
accepts b = record { answer = Ok tt; book = b }

-- a book with the counts of a sound one
pub few : (w : ℕ) (b : Book) {after is : Book} → sound w b ≡ true → after ≡ is → is.districts ≡ b.districts → is.count ≡ b.count
    → (after.districts ≤ most_districts) × (after.count ≤ most_items)
few w b s e d n = rw (e, d, n) ((test-sound w b s).few_districts, (test-sound w b s).few_items)

-- a district that there is has a row
pub district-row : (w : ℕ) (b : Book) {d : ℕ} → sound w b ≡ true → d < b.districts → d < most_districts
district-row w b s h = lt_of_lt_of_le h (test-sound w b s).few_districts
