-- Hear: sound in, sound out.
use mathlib.Core.Path.{◌≡◌, refl, sym, ◌∙◌}
use mathlib.Core.Bool.{Bool, true, false, cond, true≢false}
use Prim.Native.Nat.{ℕ, ◌<◌}
use native.Mathlib.Omega.{arith}
use lib.Dec.{eqb}
use lib.ListN.{length-set}
use borrow.Author.Tests.{eqb-true, ne_eqb}
use Rattle.conditions.proofs.Laws.Below.{by_cases}
use Rattle.book.specs.declared.Record.{Record}
use Rattle.book.specs.declared.Item.{Item}
use Rattle.book.specs.declared.Book.{Book}
use Rattle.book.specs.Book.{most_items, no_record, void_item, record_at, item_at, open_at, record_on, item_on, is_open, place_of, item_depends, open_of}
use Rattle.book.specs.Records.{busy_on, hear_record}
use Rattle.book.specs.Items.{there, concerned, install, drop, reduce_item}
use Rattle.book.specs.Hear.{outcome, hear_item, heard}
use Rattle.book.specs.Sound.{Sound}
use Rattle.book.proofs.Laws.Rows.{length-rows, past-rows, each_row, get_or-set}
use Rattle.book.specs.Shaped.{ShapedItem, Shaped}
use Rattle.book.proofs.Laws.Values.{hear-item}
use Rattle.book.proofs.Laws.But.{DistrictRow, ItemRow, SoundBut, sound-but, idle-district, item-stays, row-own, place-open}
use Rattle.book.proofs.Laws.Changing.{change-but}
use Rattle.book.proofs.Laws.Settling.{neither-depends, depends-neither, drop-row, install-row, reduce-row, reduce-shaped, reduce-free-of, concerned-busy}

module _ (w : ℕ) (b : Book) (sound : Sound w b) (t : Shaped w b) (n d : ℕ) (p : place_of w b n < w) (l : d < b.districts) where
  abbrev q : ℕ
  q = place_of w b n

  abbrev completed : Bool
  completed = outcome (open_of w b n)

  abbrev r : Record
  r = record_at b d

  abbrev c : Book
  c = heard w b n d

  s : SoundBut w b
  s = sound-but w b sound

  -- the records afterwards
  pub hear-records : (e : ℕ) → record_at (heard w b n d) e ≡ cond (eqb e d) (hear_record n (record_at b d)) (record_at b e)
  unfolding heard
  hear-records e = get_or-set b.records d (hear_record n r) no_record e (omega (arith, l, sound.few_districts, t.records))

  -- the record of a district that is not busy on it, also of another one, stays
  left : (e : ℕ) → (eqb e d ≡ true → busy_on n r ≡ false) → record_at c e ≡ record_at b e
  unfolding hear_record
  left e f = hear-records e ∙ by_cases (eqb e d) (λ k. rw (k, f k, eqb-true e d k)) (λ k. rw k)

  idles : (e : ℕ) → eqb e d ≡ true → busy_on n r ≡ true → record_at c e ≡ no_record
  unfolding hear_record
  idles e k z = hear-records e ∙ rw (k, z)

  -- ---- districts

  opens : (m : ℕ) → open_at c m ≡ cond (eqb m q) (open_at b q) (open_at b m)
  unfolding heard
  opens m = row-own b q m

  districts : (e : ℕ) → e < b.districts → DistrictRow w e (place_of w b (record_at c e).transaction.0) (open_at b (place_of w b (record_at c e).transaction.0)) (record_at c e)
  districts e h =
      by_cases (busy_on n r)
      (λ z. by_cases (eqb e d)
      (λ k. rw (idles e k z) (idle-district w e _ _))
      (λ k. rw (left e (λ m. absurd (true≢false (sym m ∙ k)))) (s.districts e h)))
      (λ z. rw (left e (λ m. z)) (s.districts e h))

  -- ---- items

  -- an item of the district, before it is reduced
  abbrev settled : Item → Item
  settled x = cond (concerned b n d x) (cond completed (install x) (drop x)) x

  item_there : (x : Item) → there d x ≡ true → hear_item w b n d q completed x ≡ reduce_item w q completed (settled x)
  unfolding hear_item
  item_there x k = rw k

  item_else : (x : Item) → there d x ≡ false → hear_item w b n d q completed x ≡ x
  unfolding hear_item
  item_else x k = rw k

  -- it is on the transaction exactly where the district is
  on_it : (x : Item) → there d x ≡ true → concerned b n d x ≡ busy_on n r
  on_it x k = concerned-busy w b sound n d p l x ∙ rw k

  on_there : (x : Item) → there d x ≡ true → busy_on n r ≡ true → item_on c x ≡ 0
  unfolding item_on record_on
  on_there x k z = rw (idles x.district k z)

  on_else : (x : Item) → (there d x ≡ true → busy_on n r ≡ false) → item_on c x ≡ item_on b x
  unfolding item_on
  on_else x f = rw (left x.district f)

  -- the item before it is reduced has its row in the book after the event
  settled_row : (x : Item) → there d x ≡ true → ItemRow w b.districts (item_on b x) (place_of w b (item_on b x)) x
      → ItemRow w b.districts (item_on c x) (place_of w b (item_on c x)) (settled x)
  settled_row x k f =
      by_cases (busy_on n r)
      (λ z. rw (on_it x k, z, on_there x k z) (by_cases completed
      (λ e. rw e (item-stays w b.districts _ _ _ _ (install x) (install-row w b.districts _ _ x f) refl (λ m. absurd (omega arith))))
      (λ e. rw e (item-stays w b.districts _ _ _ _ (drop x) (drop-row w b.districts _ _ x f) refl (λ m. absurd (omega arith))))))
      (λ z. rw (on_it x k, z, on_else x (λ m. z)) f)

  settled_district : (x : Item) → item_on c (reduce_item w q completed (settled x)) ≡ item_on c x
  unfolding item_on reduce_item
  settled_district x = by_cases (concerned b n d x) (λ e. rw e (by_cases completed (λ z. rw z) (λ z. rw z))) (λ e. rw e)

  items : (i : ℕ) → i < b.count → ItemRow w b.districts (item_on c (item_at c i)) (place_of w b (item_on c (item_at c i))) (item_at c i)
  items i h =
      let x : Item = item_at b i in
      by_cases (there d x)
      (λ k. rw (hear-item w b sound t n d i h, item_there x k, settled_district x) (reduce-row w b.districts _ _ (settled x) (settled_row x k (s.items i h)) q completed))
      (λ k. rw (hear-item w b sound t n d i h, item_else x k, on_else x (λ m. absurd (true≢false (sym m ∙ k)))) (s.items i h))

  settled_free : (x : Item) (j : ℕ) → item_depends w x j ≡ false → item_depends w (settled x) j ≡ false
  settled_free x j e =
      let both = neither-depends w x j e in
      by_cases (concerned b n d x)
      (λ k. rw k (by_cases completed
      (λ z. rw z (depends-neither w (install x) j both.1 both.1))
      (λ z. rw z (depends-neither w (drop x) j both.0 both.0))))
      (λ k. rw k e)

  free_unused : (j : ℕ) → j < w → is_open (open_at b j) ≡ false → (i : ℕ) → i < b.count → item_depends w (item_at c i) j ≡ false
  free_unused j h k i a =
      let x : Item = item_at b i in
      by_cases (there d x)
      (λ z. rw (hear-item w b sound t n d i a, item_there x z)
      (reduce-free-of w b.districts _ _ (settled x) (settled_row x z (s.items i a)) q j completed (settled_free x j (s.free_unused j h k i a))))
      (λ z. rw (hear-item w b sound t n d i a, item_else x z) (s.free_unused j h k i a))

  -- ---- the book

  pub hear-but : SoundBut w (heard w b n d)
  unfolding heard
  hear-but =
      change-but w b s _ _ b.«open» q (open_at b q) (record {
        place = p;
        was_open = place-open w b n p;
        number = refl;
        opens = opens;
        row = s.opens q p (place-open w b n p);
        districts = districts;
        items = items;
        past_districts = λ e h k. hear-records e ∙ rw (ne_eqb e d (λ z. omega arith)) (s.past_districts e h k);
        past_items = λ i h k. past-rows _ void_item b.count b.items i k ∙ s.past_items i h k;
        free_unused = free_unused;
      })

  item_shaped : (i : ℕ) → i < b.count → ShapedItem (hear_item w b n d q completed (item_at b i))
  item_shaped i h =
      let x : Item = item_at b i in
      by_cases (there d x)
      (λ z. rw (item_there x z) (reduce-shaped w b.districts _ _ (settled x) (settled_row x z (s.items i h)) q completed))
      (λ z. rw (item_else x z) (t.rows i (omega (arith, sound.few_items))))

  pub hear-shaped : Shaped w (heard w b n d)
  unfolding heard
  hear-shaped = record {
    records = length-set b.records d _ ∙ t.records;
    items = length-rows (λ i x. hear_item w b n d q completed x) void_item b.count b.items ∙ t.items;
    places = t.places;
    rows = each_row (λ i x. hear_item w b n d q completed x) void_item ShapedItem b.count most_items b.items (omega (arith, t.items)) t.rows item_shaped;
  }
