-- Demand 2 settles the whole book: rows past the counts hold zeros, a polyvalue is its values under all assignments, and forgetting reads records and items alone.
use mathlib.Core.Path.{◌≡◌, sym, ◌∙◌, ap}
use mathlib.Core.Bool.{true}
use Prim.Native.Nat.{ℕ, ◌^◌, ◌<◌}
use native.Mathlib.Omega.{arith}
use lib.Dec.{ltb}
use lib.Seq.{ext_get_or}
use borrow.Author.Tests.{ltb-true, ltb-false}
use Rattle.conditions.proofs.Laws.Below.{by_cases}
use Rattle.polyvalues.specs.declared.polyvalue.Polyvalue.{Polyvalue}
use Rattle.polyvalues.specs.Pairs.{at}
use Rattle.polyvalues.specs.Polyvalues.{in_use, packed, AllRows, sound as sound_polyvalue}
use Rattle.polyvalues.proofs.Laws.Canon.{unique}
use Rattle.polyvalues.proofs.Laws.Packed.{sound-well_formed, sound-packed}
use Rattle.book.specs.declared.Book.{Book}
use Rattle.book.specs.declared.Open.{Open}
use Rattle.book.specs.Book.{most_districts, most_items, no_record, void_item, no_open, record_at, item_at, some_depends, some_on}
use Rattle.book.specs.Forget.{needed, kept, remembered}
use Rattle.book.specs.Begin.{held_at}
use Rattle.book.specs.Shaped.{Whole}
use Rattle.demands.specs.Calls.{Call}
use Rattle.demands.specs.Demands.{pending_at, Values, EachValue, Records, open_after, Leaves}

-- two polyvalues that choose alike are one
same-polyvalue : (w : ℕ) (p q : Polyvalue) → AllRows p → AllRows q → sound_polyvalue w p ≡ true → sound_polyvalue w q ≡ true
    → ((a : ℕ) → a < 2 ^ w → at (in_use p) a ≡ at (in_use q) a) → p ≡ q
same-polyvalue w p q long wide s t f =
    sym (sound-packed w p long s) ∙ ap packed (unique w (in_use p) (in_use q) (sound-well_formed w p s).complete (sound-well_formed w q t).complete f) ∙ sound-packed w q wide t

module _ (w : ℕ) (c : Call) (b x y : Book) (u : Whole w x) (v : Whole w y) (l : Leaves w c b x) (m : Leaves w c b y) (same : Records b x (record_at y))
    (values : EachValue w b (λ a i. Values x a i (held_at y a i) (pending_at y a i))) where
  districts : x.districts ≡ y.districts
  districts = l.districts ∙ sym m.districts

  count : x.count ≡ y.count
  count = l.count ∙ sym m.count

  records : x.records ≡ y.records
  records = ext_get_or no_record x.records y.records (u.shaped.records ∙ sym v.shaped.records) (λ d h.
      let inside : d < most_districts = rw u.shaped.records at h in
      by_cases (ltb d b.districts)
      (λ t. same d (ltb-true d b.districts t))
      (λ t. let past = ltb-false d b.districts t in
      u.sound.past_districts d inside (omega (arith, past, l.districts)) ∙ sym (v.sound.past_districts d inside (omega (arith, past, m.districts)))))

  item : (i : ℕ) → i < b.count → i < most_items → item_at x i ≡ item_at y i
  item i h inside =
      let hx : i < x.count = omega (arith, h, l.count) in
      let hy : i < y.count = omega (arith, h, m.count) in
      let rx = u.shaped.rows i inside in
      let ry = v.shaped.rows i inside in
      let district : (item_at x i).district ≡ (item_at y i).district = l.belongs i h ∙ sym (m.belongs i h) in
      let held = same-polyvalue w (item_at x i).held (item_at y i).held rx.held ry.held (u.sound.held i hx) (v.sound.held i hy) (λ a k. (values i h a k).held) in
      let pending = same-polyvalue w (item_at x i).pending (item_at y i).pending rx.pending ry.pending (u.sound.pending i hx) (v.sound.pending i hy) (λ a k. (values i h a k).pending) in
      λ k. record { district = district k; held = held k; pending = pending k }

  items : x.items ≡ y.items
  items = ext_get_or void_item x.items y.items (u.shaped.items ∙ sym v.shaped.items) (λ i h.
      let inside : i < most_items = rw u.shaped.items at h in
      by_cases (ltb i b.count)
      (λ t. item i (ltb-true i b.count t) inside)
      (λ t. let past = ltb-false i b.count t in
      u.sound.past_items i inside (omega (arith, past, l.count)) ∙ sym (v.sound.past_items i inside (omega (arith, past, m.count)))))

  remembers : (q : ℕ) (o : Open) → remembered w x q o ≡ remembered w y q o
  unfolding remembered kept needed some_on some_depends
  remembers q o = λ k. remembered w (record { last = x.last; districts = districts k; records = records k; count = count k; items = items k; «open» = x.«open» }) q o

  places : x.«open» ≡ y.«open»
  places = ext_get_or no_open x.«open» y.«open» (u.shaped.places ∙ sym v.shaped.places) (λ q h.
      let inside : q < w = rw u.shaped.places at h in
      l.places q inside ∙ remembers q (open_after w b c q) ∙ sym (m.places q inside))

  pub settled : x ≡ y
  settled =
      let last : x.last.0 ≡ y.last.0 = l.last ∙ sym m.last in
      λ k. record { last = record { 0 = last k }; districts = districts k; records = records k; count = count k; items = items k; «open» = places k }
