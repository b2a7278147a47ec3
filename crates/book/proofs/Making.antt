-- Openings in rows: what holding them tells, the turns of the loop over them, and the book that is made of them.
use mathlib.Core.Path.{◌≡◌, refl, ap}
use mathlib.Core.Bool.{Bool, true, false, ◌&&◌}
use mathlib.Core.List.{List, [], ◌∷◌, ◌++◌, map}
use Prim.Native.Nat.{ℕ, ◌-◌, ◌≤◌}
use native.Mathlib.Omega.{arith}
use denote.Shadow.{shadow}
use lib.ListN.{length, replicate, length-take}
use mir.Val.{Val}
use Rattle.std.specs.List.{list_all}
use Rattle.conditions.specs.Places.{places}
use Rattle.book.specs.declared.Book.{Book}
use Rattle.book.specs.declared.Item.{Item}
use Rattle.book.specs.declared.Opening.{Opening}
use Rattle.book.specs.declared.maker.Openings.{Openings}
use Rattle.book.specs.Book.{most_items, no_item, no_book}
use Rattle.book.specs.Open.{good_item, good_items, good_opening, opened_item, opened_book, opened}
use Rattle.book.specs.Openings.{openings_of, opened_rows}
use Rattle.book.proofs.Laws.Openings.{rows-opened}
use Rattle.book.specs.contracts.maker.Openings as TOpenings

-- t is a value that code holds
pub record Held (t : Openings) : Type 0 where
  pub values : List Val
  pub own : shadow ((TOpenings.the_field).row.own_val ((TOpenings.the_field).into t) values)

pub items-long : {t : Openings} → Held t → length t.items ≡ most_items
items-long {t} h = h.own.1.1.1.0.1.0.1

pub openings-count : {t : Openings} → Held t → t.count ≤ most_items → length (openings_of t) ≡ t.count
unfolding openings_of
openings-count {t} h few = omega (arith, length-take t.count t.items, items-long h)

-- the library's test of each
pub each-good : (districts : ℕ) (xs : List Opening) → list_all (good_item districts) xs ≡ good_items districts xs
each-good districts [] = refl
each-good districts (x ∷ xs) = ap (λ (b : Bool). good_item districts x && b) (each-good districts xs)

-- ---- the book, where they are not too many

module _ (districts : ℕ) (t : Openings) (few : t.count ≤ most_items) {b : Book} (e : b ≡ no_book places) where
  pub opens-none : good_opening districts (openings_of t) ≡ false → b ≡ opened_rows places districts t
  unfolding opened
  opens-none bad = rw (rows-opened places districts t few, bad) e

  pub opens_one : {rows : List Item} → length (openings_of t) ≡ t.count → good_opening districts (openings_of t) ≡ true
      → rows ≡ map (opened_item places) (openings_of t) ++ replicate (most_items - t.count) no_item
      → record { last = b.last; districts = districts; records = b.records; count = t.count; items = rows; «open» = b.«open» } ≡ opened_rows places districts t
  unfolding opened opened_book no_book
  opens_one count good are =
      rw (rows-opened places districts t few, good, count)
      (λ k. record { last = (e k).last; districts = districts; records = (e k).records; count = t.count; items = are k; «open» = (e k).«open» })
