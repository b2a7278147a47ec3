use borrow.Author.Rules.{rules}
use mathlib.Core.Path.{◌≡◌, refl, sym, ap, ◌∙◌}
use mathlib.Core.Bool.{Bool, not, and-false}
use Prim.Native.Nat.{ℕ, ◌<◌}
use native.Mathlib.Numerals.{add-one}
use native.Mathlib.Omega.{arith}
use lib.ListN.{length, get_or, take, drop, length-take}
use Rattle.std.specs.List.{list_all}
use Rattle.std.proofs.lemmas.List.{get_or-take}
use Rattle.conditions.specs.Below.{all}
use Rattle.conditions.specs.Places.{places as width}
use Rattle.conditions.specs.Sets.{set_of}
use Rattle.conditions.proofs.Laws.Below.{all_more, all-fails}
use Rattle.book.specs.declared.Book.{Book}
use Rattle.book.specs.declared.Item.{Item}
use Rattle.book.specs.Book.{most_items, no_item, void_item, item_at, item_depends}
use Rattle.book.specs.SoundTest.{same_item, sound_row, sound_item, sound}
use Rattle.book.proofs.Depended.{depended-more, all-depended}
use Rattle.book.proofs.Lists.{to_the_end}
use Rattle.book.proofs.Loops.{gathered_none}
use Rattle.book.proofs.Testing.{few-rows, number-last, item-row, items-past}
use Rattle.book.proofs.Book.is_sound.Goals as goal

-- the item that a turn looks at is the book's
here : (b : Book) (i : ℕ) → i < b.count → get_or (take b.count b.items) i void_item ≡ item_at b i
here b i h = get_or-take b.count b.items i void_item h

tested : (b : Book) (i : ℕ) → i < b.count → {r : Bool} → r ≡ sound_row width b (get_or (take b.count b.items) i void_item) → r ≡ sound_item width b i
tested b i h e = e ∙ ap (sound_row width b) (here b i h) ∙ sym (item-row width b h)

pub returns-then-not-good_counts : goal.returns-then-not-good_counts
unfolding sound
returns-then-not-good_counts c = rw (sym c.good_counts.ensures ∙ c.if-not-good_counts.true)

pub loop-x-init : goal.loop-x-init
unfolding all
loop-x-init c = (refl, gathered_none width _)

pub returns-then-not-sound_row : goal.returns-then-not-sound_row
unfolding sound
returns-then-not-sound_row c =
    let few = (few-rows c.args.self.now.districts c.args.self.now.count c.good_counts.ensures (ap not c.if-not-good_counts.false)).1 in
    let below : c.loop-x.x-index < c.args.self.now.count = omega (arith, length-take c.args.self.now.count c.args.self.now.items) in
    let fails = sym (tested c.args.self.now c.loop-x.x-index below (c.sound_row.ensures c.places_of-its.ensures)) ∙ c.if-not-sound_row.true in
    rw (all-fails most_items (sound_item width c.args.self.now) c.loop-x.x-index (omega arith) fails, and-false)

pub loop-x-preserved : goal.loop-x-preserved
loop-x-preserved c =
    let below : c.loop-x.x-index < c.args.self.now.count = omega (arith, length-take c.args.self.now.count c.args.self.now.items) in (
      rw add-one (all_more _ _ c.loop-x.invariant.0 (sym (tested c.args.self.now c.loop-x.x-index below (c.sound_row.ensures c.places_of-its.ensures)) ∙ c.if-not-sound_row.false)),
      depended-more width c.args.self.now c.loop-x.x-index c.loop-x.depended c.loop-x.invariant.1
          (c.places_of-its.ensures ∙ ap (λ (x : Item). set_of width (item_depends width x)) (here c.args.self.now c.loop-x.x-index below)),
    )

pub returns-then-not-zero_rows : goal.returns-then-not-zero_rows
unfolding sound
returns-then-not-zero_rows c =
    let few = few-rows c.args.self.now.districts c.args.self.now.count c.good_counts.ensures (ap not c.if-not-good_counts.false) in
    let long : length c.args.self.now.items ≡ most_items = search rules in
    let last : c.loop-x.x-index ≡ c.args.self.now.count = omega (arith, length-take c.args.self.now.count c.args.self.now.items, few.1, long) in
    let zeros : c.zero_rows.result ≡ list_all (λ x. same_item x no_item) (drop c.args.self.now.count c.args.self.now.items) =
    c.zero_rows.ensures ∙ ap (list_all (λ x. same_item x no_item)) (to_the_end c.args.self.now.count most_items c.args.self.now.items long) in
    let items = sym (items-past width c.args.self.now long few.1 (rw last at c.loop-x.invariant.0)) ∙ sym zeros in
    rw (items ∙ c.if-not-zero_rows.true, and-false)

pub returns-then-sound_districts : goal.returns-then-sound_districts
unfolding sound
returns-then-sound_districts c =
    let few = few-rows c.args.self.now.districts c.args.self.now.count c.good_counts.ensures (ap not c.if-not-good_counts.false) in
    let long : length c.args.self.now.items ≡ most_items = search rules in
    let last : c.loop-x.x-index ≡ c.args.self.now.count = omega (arith, length-take c.args.self.now.count c.args.self.now.items, few.1, long) in
    let zeros : c.zero_rows.result ≡ list_all (λ x. same_item x no_item) (drop c.args.self.now.count c.args.self.now.items) =
    c.zero_rows.ensures ∙ ap (list_all (λ x. same_item x no_item)) (to_the_end c.args.self.now.count most_items c.args.self.now.items long) in
    let items = sym (items-past width c.args.self.now long few.1 (rw last at c.loop-x.invariant.0)) ∙ sym zeros in
    let tables = c.of.ensures (all-depended width c.args.self.now c.loop-x.depended last c.loop-x.invariant.1) in
    c.sound_places.ensures c.args.self.now tables
    ∙ rw (
      sym c.good_counts.ensures ∙ c.if-not-good_counts.false,
      number-last {n = c.args.self.now.last.0} (search rules),
      sym c.sound_districts.ensures ∙ c.if-sound_districts.true,
      items ∙ c.if-not-zero_rows.false,
    )

pub returns-else-sound_districts : goal.returns-else-sound_districts
unfolding sound
returns-else-sound_districts c = c.if-sound_districts.false ∙ rw (sym c.sound_districts.ensures ∙ c.if-sound_districts.false, and-false)
