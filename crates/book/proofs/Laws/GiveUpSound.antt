-- Give up: sound in, sound out.
use mathlib.Core.Path.{◌≡◌, refl, sym, ◌∙◌, ap}
use mathlib.Core.Bool.{Bool, true, false, cond, true≢false, and-true}
use Prim.Native.Nat.{ℕ, ◌<◌}
use native.Mathlib.Nat.{lt_of_lt_of_le}
use native.Mathlib.Omega.{arith}
use lib.Dec.{eqb}
use lib.ListN.{length, length-set}
use borrow.Author.Tests.{eqb-true, ne_eqb}
use Rattle.conditions.proofs.Laws.Below.{by_cases}
use Rattle.conditions.proofs.Laws.Places.{place-below}
use Rattle.book.specs.declared.Record.{Record}
use Rattle.book.specs.declared.Item.{Item}
use Rattle.book.specs.declared.Open.{Open}
use Rattle.book.specs.declared.Book.{Book}
use Rattle.book.specs.Book.{most_districts, most_items, no_record, no_open, void_item, record_at, item_at, open_at, record_on, item_on, is_open, place_of, item_depends, open_of}
use Rattle.book.specs.Records.{computing_on, busy_on}
use Rattle.book.specs.Items.{there, concerned, drop, split}
use Rattle.book.specs.GiveUp.{give_up_item, marked, gave_up}
use Rattle.book.specs.Sound.{Sound}
use Rattle.book.proofs.Laws.Rows.{length-rows, past-rows, each_row, get_or-set}
use Rattle.book.proofs.Laws.Including.{including-other}
use Rattle.book.specs.Shaped.{ShapedItem, Shaped}
use Rattle.book.proofs.Laws.Values.{give_up-item}
use Rattle.book.proofs.Laws.But.{DistrictRow, ItemRow, OpenRow, SoundBut, sound-but, idle-district, Seen, seen_same, seen_at, row-own, district-stays, item-stays, place-open, computing-on, busy-is}
use Rattle.book.proofs.Laws.Changing.{change-but}
use Rattle.book.proofs.Laws.Settling.{neither-depends, depends-neither, idle-row, split-sound, split-shaped, split-free, concerned-busy}

module _ (w : ℕ) (b : Book) (sound : Sound w b) (t : Shaped w b) (n d : ℕ) (p : place_of w b n < w) (l : d < b.districts) (on : busy_on n (record_at b d) ≡ true) where
  abbrev q : ℕ
  q = place_of w b n

  abbrev o : Open
  o = open_of w b n

  abbrev r : Record
  r = record_at b d

  abbrev c : Book
  c = gave_up w b n d

  abbrev early : Bool
  early = computing_on n r

  s : SoundBut w b
  s = sound-but w b sound

  number : r.transaction.0 ≡ n
  number = (busy-is n r on).1

  was : DistrictRow w d q o r
  was = rw number at (s.districts d l)

  -- the records afterwards, and the places
  pub give_up-records : (e : ℕ) → record_at (gave_up w b n d) e ≡ cond (eqb e d) no_record (record_at b e)
  unfolding gave_up
  give_up-records e = get_or-set b.records d no_record no_record e (omega (arith, l, sound.few_districts, t.records))

  -- ---- the transaction

  abbrev new : Open
  new = cond early (marked d o) o

  pub give_up-opens : (m : ℕ) → open_at (gave_up w b n d) m
      ≡ cond (eqb m (place_of w b n)) (cond (computing_on n (record_at b d)) (marked d (open_of w b n)) (open_of w b n)) (open_at b m)
  unfolding gave_up
  give_up-opens m =
      by_cases early
      (λ e. rw e (get_or-set b.«open» q (marked d o) no_open m (omega (arith, t.places))))
      (λ e. rw e (row-own b q m))

  old : OpenRow b.districts b.last.0 o
  old = s.opens q p (place-open w b n p)

  marked_row : early ≡ true → OpenRow b.districts b.last.0 (marked d o)
  marked_row e = record {
    touched = old.touched;
    ready = old.ready;
    gave = place-below most_districts b.districts o.gave d true sound.few_districts old.gave l;
    decisions = old.decisions;
    given = old.given;
    sets = λ f h. record {
      apart = λ k.
          by_cases (eqb f d)
          (λ m. absurd (true≢false (sym k ∙ rw (eqb-true f d m) (was.computing_not_ready (computing-on n r e).0))))
          (λ m. including-other o.gave d f (lt_of_lt_of_le h sound.few_districts) m ∙ (old.sets f h).apart k);
      ready_touched = (old.sets f h).ready_touched;
      gave_touched = λ k.
          by_cases (eqb f d)
          (λ m. rw (eqb-true f d m) (was.busy_touched (busy-is n r on).0))
          (λ m. (old.sets f h).gave_touched (sym (including-other o.gave d f (lt_of_lt_of_le h sound.few_districts) m) ∙ k));
      completed_ready = (old.sets f h).completed_ready;
    };
  }

  row : OpenRow b.districts b.last.0 new
  row = by_cases early (λ e. rw e (marked_row e)) (λ e. rw e old)

  -- ---- districts

  new_seen : (e : ℕ) → e < b.districts → eqb e d ≡ false → Seen e o new
  new_seen e h k =
      by_cases early
      (λ z. rw z (record { touched = refl; ready = refl; gave = including-other o.gave d e (lt_of_lt_of_le h sound.few_districts) k }))
      (λ z. rw z (seen_same e o o refl))

  seen : (e m : ℕ) → e < b.districts → eqb e d ≡ false → Seen e (open_at b m) (open_at c m)
  seen e m h k = seen_at b c q e new give_up-opens (new_seen e h k) m

  districts : (e : ℕ) → e < b.districts → DistrictRow w e (place_of w b (record_at c e).transaction.0) (open_at c (place_of w b (record_at c e).transaction.0)) (record_at c e)
  districts e h =
      by_cases (eqb e d)
      (λ k. rw (give_up-records e, k, eqb-true e d k) (idle-district w d _ _))
      (λ k. rw (give_up-records e, k) (district-stays w e _ _ _ _ (record_at b e) (s.districts e h) (λ z. refl) (λ z. seen e _ h k)))

  -- ---- items

  -- what becomes of an item of the district
  abbrev settled : Item → Item
  settled x = let either : Item = split w q x in cond early (drop x) either

  on_it : (x : Item) → concerned b n d x ≡ there d x
  on_it x = concerned-busy w b sound n d p l x ∙ rw on (and-true (there d x))

  item_there : (x : Item) → there d x ≡ true → give_up_item w b n d q early x ≡ settled x
  unfolding give_up_item
  item_there x k = rw (on_it x, k)

  item_else : (x : Item) → there d x ≡ false → give_up_item w b n d q early x ≡ x
  unfolding give_up_item
  item_else x k = rw (on_it x, k)

  on_there : (x : Item) → there d x ≡ true → item_on c x ≡ 0
  unfolding item_on record_on
  on_there x k = rw (give_up-records x.district, k)

  on_else : (x : Item) → there d x ≡ false → item_on c x ≡ item_on b x
  unfolding item_on
  on_else x k = rw (give_up-records x.district, k)

  settled_row : (m u : ℕ) (x : Item) → ItemRow w b.districts m u x → there d x ≡ true → (v : ℕ) → ItemRow w b.districts (item_on c (settled x)) v (settled x)
  unfolding split
  settled_row m u x f k v =
      by_cases early
      (λ e. rw e (idle-row w b.districts _ v (drop x) f.belongs f.held refl (on_there (drop x) k)))
      (λ e. rw e (idle-row w b.districts _ v (split w q x) f.belongs (split-sound w b.districts m u x f q) refl (on_there (split w q x) k)))

  items : (i : ℕ) → i < b.count → ItemRow w b.districts (item_on c (item_at c i)) (place_of w b (item_on c (item_at c i))) (item_at c i)
  items i h =
      let x : Item = item_at b i in
      by_cases (there d x)
      (λ k. rw (give_up-item w b sound t n d i h, item_there x k) (settled_row _ _ x (s.items i h) k _))
      (λ k. rw (give_up-item w b sound t n d i h, item_else x k)
      (item-stays w b.districts _ _ _ _ x (s.items i h) (on_else x k) (λ z. ap (place_of w b) (on_else x k))))

  settled_free : (m u : ℕ) (x : Item) → ItemRow w b.districts m u x → (j : ℕ) → (q ≡ j → ⊥) → item_depends w x j ≡ false → item_depends w (settled x) j ≡ false
  settled_free m u x f j apart e =
      by_cases early
      (λ z. rw z (depends-neither w (drop x) j (neither-depends w x j e).0 (neither-depends w x j e).0))
      (λ z. rw z (split-free w b.districts m u x f q j apart e))

  free_unused : (j : ℕ) → j < w → is_open (open_at b j) ≡ false → (i : ℕ) → i < b.count → item_depends w (item_at c i) j ≡ false
  free_unused j h k i a =
      let x : Item = item_at b i in
      by_cases (there d x)
      (λ z. rw (give_up-item w b sound t n d i a, item_there x z)
      (settled_free _ _ x (s.items i a) j (λ e. true≢false (sym (place-open w b n p) ∙ rw e k)) (s.free_unused j h k i a)))
      (λ z. rw (give_up-item w b sound t n d i a, item_else x z) (s.free_unused j h k i a))

  -- ---- the book

  pub give_up-but : SoundBut w (gave_up w b n d)
  unfolding gave_up
  give_up-but =
      change-but w b s _ _ _ q new (record {
        place = p;
        was_open = place-open w b n p;
        number = by_cases early (λ e. rw e) (λ e. rw e);
        opens = give_up-opens;
        row = row;
        districts = districts;
        items = items;
        past_districts = λ e h k. give_up-records e ∙ rw (ne_eqb e d (λ z. omega arith)) (s.past_districts e h k);
        past_items = λ i h k. past-rows _ void_item b.count b.items i k ∙ s.past_items i h k;
        free_unused = free_unused;
      })

  settled_shaped : (m u : ℕ) (x : Item) → ItemRow w b.districts m u x → ShapedItem x → ShapedItem (settled x)
  settled_shaped m u x f a =
      by_cases early
      (λ z. rw z (record { held = a.held; pending = a.held }))
      (λ z. rw z (split-shaped w b.districts m u x f q))

  item_shaped : (i : ℕ) → i < b.count → ShapedItem (give_up_item w b n d q early (item_at b i))
  item_shaped i h =
      let x : Item = item_at b i in
      let old : ShapedItem x = t.rows i (omega (arith, sound.few_items)) in
      by_cases (there d x) (λ z. rw (item_there x z) (settled_shaped _ _ x (s.items i h) old)) (λ z. rw (item_else x z) old)

  length_open : length c.«open» ≡ w
  unfolding gave_up
  length_open = by_cases early (λ e. rw e (length-set b.«open» q (marked d o) ∙ t.places)) (λ e. rw e t.places)

  pub give_up-shaped : Shaped w (gave_up w b n d)
  unfolding gave_up
  give_up-shaped = record {
    records = length-set b.records d _ ∙ t.records;
    items = length-rows (λ i x. give_up_item w b n d q early x) void_item b.count b.items ∙ t.items;
    places = length_open;
    rows = each_row (λ i x. give_up_item w b n d q early x) void_item ShapedItem b.count most_items b.items (omega (arith, t.items)) t.rows item_shaped;
  }
