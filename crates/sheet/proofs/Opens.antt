-- What open answers of a sheet s, as it was read.
use mathlib.Core.Path.{◌≡◌}
use mathlib.Core.List.{List}
use Prim.Native.Nat.{ℕ, ◌≤◌, ◌<◌}
use lib.ListN.{length}
use borrow.Author.Tests.{lt-ltb, le-ltb}
use Rattle.std.specs.Prelude.{Ok}
use Rattle.book.specs.declared.Refusal.TheVariants.{TooLong}
use Rattle.book.specs.declared.Book.{Book}
use Rattle.book.specs.Open.{opened}
use Rattle.sheet.specs.Readers.{right}
use Rattle.sheet.specs.Sections.{Sheet, sheet}
use Rattle.sheet.specs.Open.{most_bytes, refused, opened_sheet, open_sheet}

module _ (w : ℕ) (s : List ℕ) where
  pub sheet-too_long : most_bytes < length s → refused w TooLong 0 ≡ open_sheet w s
  unfolding open_sheet
  sheet-too_long h = rw (lt-ltb most_bytes (length s) h)

module _ (w : ℕ) (s : List ℕ) (few : length s ≤ most_bytes) where
  pub good : (x : Sheet) (at : ℕ) {rest : List ℕ} {b : Book} → sheet s ≡ right x at rest → b ≡ opened w x.districts x.items
      → record { answer = Ok tt; place = 0; book = b; first = x.events.first; count = x.events.count } ≡ open_sheet w s
  unfolding open_sheet opened_sheet
  good x at e is =
      rw (le-ltb most_bytes (length s) few, e) (λ k. record { answer = Ok tt; place = 0; book = is k; first = x.events.first; count = x.events.count })
