-- Begin: sound in, sound out.
use mathlib.Core.Path.{◌≡◌, refl, sym, ◌∙◌, ap, ap₂}
use mathlib.Core.Bool.{true, false, not, ◌&&◌, cond, true≢false, false≢true, and-false}
use mathlib.Core.List.{List}
use Prim.Native.Nat.{ℕ, suc, ◌≤◌, ◌<◌}
use native.Mathlib.Omega.{arith}
use lib.Dec.{eqb, ltb}
use lib.IntN.{ℤ}
use lib.ListN.{length, length-set}
use lib.Pow.{pow_pos}
use borrow.Author.Tests.{eqb-true, eq-eqb, ne_eqb, ltb-false, not-true}
use Rattle.conditions.specs.Places.{with_place}
use Rattle.conditions.specs.Conditions.{full}
use Rattle.conditions.proofs.Laws.Below.{by_cases, any_none, any_of, first_passes}
use Rattle.conditions.proofs.Laws.Sets.{member-none, member-set_of, set_of-below}
use Rattle.polyvalues.specs.Pairs.{depends}
use Rattle.polyvalues.specs.Polyvalues.{most_pairs, in_use, packed, WellFormed}
use Rattle.polyvalues.specs.Operations.{together}
use Rattle.polyvalues.proofs.Laws.Canon.{over-full}
use Rattle.polyvalues.proofs.Laws.Depends.{at-free, free-canon}
use Rattle.polyvalues.proofs.Laws.Room.{over-count}
use Rattle.polyvalues.proofs.Laws.WellFormed.{at-range, canon-well_formed}
use Rattle.polyvalues.proofs.Laws.Packed.{in_use-packed, packed-sound, sound-well_formed}
use Rattle.book.specs.declared.Item.{Item}
use Rattle.book.specs.declared.Open.{Open}
use Rattle.book.specs.declared.Step.{Step}
use Rattle.book.specs.declared.Book.{Book}
use Rattle.book.specs.Book.{most_districts, most_items, last_number, no_record, no_open, void_item, record_at, item_at, open_at, record_on, item_on, is_open, named, place_of, free_place, item_depends}
use Rattle.book.specs.Programs.{run, touches, some_step}
use Rattle.book.specs.Records.{begin_record}
use Rattle.book.specs.Items.{becomes}
use Rattle.book.specs.Begin.{bad_step, outside, held_at, results, some_busy, too_many, touches_district, begin_item, new_row, begun}
use Rattle.book.specs.Sound.{Sound}
use Rattle.book.proofs.Laws.Rows.{length-rows, get_or-rows, past-rows, each_row, get_or-set}
use Rattle.book.proofs.Laws.Programs.{run-reads, run-range}
use Rattle.book.proofs.Laws.Touched.{touched-below, touched-idle}
use Rattle.book.proofs.Laws.Sound.{place-named}
use Rattle.book.specs.Shaped.{ShapedItem, Shaped}
use Rattle.book.proofs.Laws.Values.{begin-item}
use Rattle.book.proofs.Laws.But.{DistrictRow, ItemRow, OpenRow, SoundBut, sound-but, place_of-is, place_of-kept, seen_same, district-stays, item-stays, item-place, place-open}
use Rattle.polyvalues.proofs.Laws.Paired.{packed-rows}
use Rattle.book.proofs.Laws.Settling.{neither-depends, depends-neither}

-- what begin has tested
pub record Begins (w : ℕ) (b : Book) (xs : List Step) : Type 0 where
  pub good : some_step bad_step xs ≡ false
  pub inside : some_step (outside b.count) xs ≡ false
  pub idles : some_busy b xs ≡ false
  pub place : free_place w b < w
  pub numbers : b.last.0 < last_number
  pub few : too_many w b xs ≡ false

module _ (w : ℕ) (b : Book) (sound : Sound w b) (t : Shaped w b) (xs : List Step) (f : Begins w b xs) where
  abbrev q : ℕ
  q = free_place w b

  abbrev n : ℕ
  n = suc b.last.0

  abbrev c : Book
  c = begun w b xs

  abbrev new : Open
  new = new_row b xs

  s : SoundBut w b
  s = sound-but w b sound

  below : (i : ℕ) → touches xs i ≡ true → i < b.count
  below i k = touched-below b.count xs i f.inside k

  -- ---- the rows afterwards

  pub begin-records : (e : ℕ) → e < b.districts → record_at (begun w b xs) e ≡ cond (touches_district b xs e) (begin_record (suc b.last.0)) (record_at b e)
  unfolding begun
  begin-records e h =
      get_or-rows (λ d r. cond (touches_district b xs d) (begin_record n) r) no_record b.districts b.records e h (omega (arith, sound.few_districts, t.records))

  pub begin-opens : (m : ℕ) → open_at (begun w b xs) m ≡ cond (eqb m (free_place w b)) (new_row b xs) (open_at b m)
  unfolding begun
  begin-opens m = get_or-set b.«open» q new no_open m (omega (arith, f.place, t.places))

  here : (m : ℕ) → eqb m q ≡ true → open_at c m ≡ new
  here m e = begin-opens m ∙ rw e

  other : (m : ℕ) → eqb m q ≡ false → open_at c m ≡ open_at b m
  other m e = begin-opens m ∙ rw e

  -- ---- places

  pub free-place : is_open (open_at b (free_place w b)) ≡ false
  unfolding free_place
  free-place = not-true _ (first_passes w (λ m. not (is_open (open_at b m))) f.place)

  -- an open place is another
  apart : (m : ℕ) → is_open (open_at b m) ≡ true → eqb m q ≡ false
  apart m k = ne_eqb m q (λ e. true≢false (sym k ∙ rw e free-place))

  -- the numbers at the places are given already
  given : (m : ℕ) → m < w → (open_at b m).number.0 ≤ b.last.0
  given m h =
      by_cases (is_open (open_at b m))
      (λ k. (s.opens m h k).given)
      (λ k. let none : (open_at b m).number.0 ≡ 0 = ap (λ (o : Open). o.number.0) (s.free m h k) in omega arith)

  place_new : place_of w c n ≡ q
  place_new =
      place_of-is w c n q f.place
      (rw (here q (eq-eqb q q refl)) (ap₂ ◌&&◌ (ap not (ne_eqb n 0 (λ z. omega arith))) (eq-eqb n n refl)))
      (λ j l. rw (other j (ne_eqb j q (λ z. omega arith)), ne_eqb (open_at b j).number.0 n (λ z. omega (arith, given j (omega (arith, f.place))))) (and-false (is_open (open_at b j))))

  place_old : (m : ℕ) → place_of w b m < w → place_of w c m ≡ place_of w b m
  place_old m h =
      place_of-kept w b c m h (ap (named m) (other (place_of w b m) (apart (place_of w b m) (place-open w b m h))))
      (λ j l k. by_cases (eqb j q)
      (λ e. rw (here j e, ne_eqb n m (λ z. omega (arith, (place-named w b m h).0, given (place_of w b m) h))) (and-false (not (eqb n 0))))
      (λ e. rw (other j e) k))

  row_old : (m : ℕ) → place_of w b m < w → open_at c (place_of w c m) ≡ open_at b (place_of w b m)
  row_old m h = ap (open_at c) (place_old m h) ∙ other (place_of w b m) (apart (place_of w b m) (place-open w b m h))

  -- ---- districts

  begins : (e : ℕ) → e < b.districts → touches_district b xs e ≡ true → DistrictRow w e q new (begin_record n)
  begins e h k = record {
    phases = omega arith;
    idle_none = λ z. absurd (false≢true z);
    busy_open = λ z. f.place;
    busy_touched = λ z. member-set_of most_districts (touches_district b xs) e (omega (arith, sound.few_districts)) ∙ k;
    waiting_ready = λ z. absurd (omega arith);
    computing_not_ready = λ z. member-none e;
    computing_not_gave = λ z. member-none e;
  }

  districts : (e : ℕ) → e < b.districts → DistrictRow w e (place_of w c (record_at c e).transaction.0) (open_at c (place_of w c (record_at c e).transaction.0)) (record_at c e)
  districts e h =
      by_cases (touches_district b xs e)
      (λ k. rw (begin-records e h, k, place_new, here q (eq-eqb q q refl)) (begins e h k))
      (λ k. rw (begin-records e h, k) (district-stays w e _ _ _ _ (record_at b e) (s.districts e h)
      (λ z. place_old (record_at b e).transaction.0 ((s.districts e h).busy_open z))
      (λ z. seen_same e _ _ (row_old (record_at b e).transaction.0 ((s.districts e h).busy_open z)))))

  -- ---- what the program gives

  module _ (i : ℕ) (k : touches xs i ≡ true) where
    abbrev value : ℕ → ℤ
    value a = run xs (held_at b a) i

    -- old and new values have room together
    together-few : together (in_use (item_at b i).held) (results w b xs i) ≤ most_pairs
    unfolding too_many
    together-few =
        let no : (touches xs i && ltb most_pairs (together (in_use (item_at b i).held) (results w b xs i))) ≡ false =
        any_none b.count (λ i. touches xs i && ltb most_pairs (together (in_use (item_at b i).held) (results w b xs i))) f.few i (below i k) in
        ltb-false most_pairs (together (in_use (item_at b i).held) (results w b xs i)) (rw k at no)

    results-few : length (results w b xs i) ≤ most_pairs
    unfolding results
    results-few =
        let l : length (results w b xs i) ≤ together (in_use (item_at b i).held) (results w b xs i) =
        rw (over-full w value) at (over-count w value (full w) (in_use (item_at b i).held)) in
        omega (arith, together-few)

    -- begin makes polyvalues
    results-formed : WellFormed w (results w b xs i)
    unfolding results
    results-formed =
        canon-well_formed w value
        (λ a h. run-range xs (held_at b a) f.good (λ j m. at-range (in_use (item_at b j).held) a (sound-well_formed w (item_at b j).held (sound.held j (below j m))).values) i k)
        results-few

    -- they depend on no place on which nothing depended
    results-free : (j : ℕ) → ((m : ℕ) → m < b.count → item_depends w (item_at b m) j ≡ false) → depends w (results w b xs i) j ≡ false
    unfolding results
    results-free j free =
        free-canon w value j (λ a h.
        run-reads xs (held_at b (with_place w a j true)) (held_at b (with_place w a j false))
        (λ m z.
        let none = (neither-depends w (item_at b m) j (free m (below m z))).0 in
        at-free w (in_use (item_at b m).held) j none true a h ∙ sym (at-free w (in_use (item_at b m).held) j none false a h))
        i k)

  -- ---- items

  item_touched : (i : ℕ) (x : Item) → touches xs i ≡ true → begin_item w b xs i x ≡ becomes x x.held (packed (results w b xs i))
  unfolding begin_item
  item_touched i x k = rw k

  item_else : (i : ℕ) (x : Item) → touches xs i ≡ false → begin_item w b xs i x ≡ x
  unfolding begin_item
  item_else i x k = rw k

  -- a touched item's district is touched
  pub touched-district : (i : ℕ) → touches xs i ≡ true → touches_district b xs (item_at b i).district ≡ true
  unfolding touches_district
  touched-district i k =
      any_of b.count (λ m. touches xs m && eqb (item_at b m).district (item_at b i).district) i (below i k)
      (ap₂ ◌&&◌ k (eq-eqb (item_at b i).district (item_at b i).district refl))

  on_new : (x : Item) → touches_district b xs x.district ≡ true → item_on c x ≡ n
  unfolding item_on record_on
  on_new x k = rw (begin-records x.district (touched-idle b xs sound.belongs f.idles x.district k).0, k)

  on_old : (x : Item) → x.district < b.districts → touches_district b xs x.district ≡ false → item_on c x ≡ item_on b x
  unfolding item_on
  on_old x h k = rw (begin-records x.district h, k)

  touched_free : (i : ℕ) → touches xs i ≡ true → (j : ℕ) → ((m : ℕ) → m < b.count → item_depends w (item_at b m) j ≡ false)
      → item_depends w (becomes (item_at b i) (item_at b i).held (packed (results w b xs i))) j ≡ false
  touched_free i k j free =
      depends-neither w (becomes (item_at b i) (item_at b i).held (packed (results w b xs i))) j
      (neither-depends w (item_at b i) j (free i (below i k))).0
      (rw (in_use-packed (results w b xs i)) (results-free i k j free))

  touched_row : (i : ℕ) → touches xs i ≡ true → ItemRow w b.districts n q (becomes (item_at b i) (item_at b i).held (packed (results w b xs i)))
  touched_row i k = record {
    belongs = sound.belongs i (below i k);
    held = sound.held i (below i k);
    pending = packed-sound w (results w b xs i) (results-formed i k);
    idle_same = λ z. absurd (omega arith);
    own_free = λ z. touched_free i k q (s.free_unused q f.place free-place);
    few_together = rw (in_use-packed (results w b xs i)) (together-few i k);
  }

  -- an item that is not touched, of a district that is: its pending value stays the held one
  beside_row : (i : ℕ) → i < b.count → ItemRow w b.districts n q (item_at b i)
  beside_row i h = record {
    belongs = sound.belongs i h;
    held = sound.held i h;
    pending = sound.pending i h;
    idle_same = λ z. absurd (omega arith);
    own_free = λ z. s.free_unused q f.place free-place i h;
    few_together = sound.few_together i h;
  }

  pub not-touched : (i : ℕ) → touches_district b xs (item_at b i).district ≡ false → touches xs i ≡ false
  not-touched i k = by_cases (touches xs i) (λ z. absurd (true≢false (sym (touched-district i z) ∙ k))) (λ z. z)

  items : (i : ℕ) → i < b.count → ItemRow w b.districts (item_on c (item_at c i)) (place_of w c (item_on c (item_at c i))) (item_at c i)
  items i h =
      let x : Item = item_at b i in
      by_cases (touches_district b xs x.district)
      (λ k. by_cases (touches xs i)
      (λ z. rw (begin-item w b sound t xs i h, item_touched i x z, on_new (becomes x x.held (packed (results w b xs i))) k, place_new) (touched_row i z))
      (λ z. rw (begin-item w b sound t xs i h, item_else i x z, on_new x k, place_new) (beside_row i h)))
      (λ k. rw (begin-item w b sound t xs i h, item_else i x (not-touched i k))
      (item-stays w b.districts _ _ _ _ x (s.items i h) (on_old x (sound.belongs i h) k) (λ z. ap (place_of w c) (on_old x (sound.belongs i h) k) ∙ item-place w b c x (λ k. place_old _ ((s.districts x.district (sound.belongs i h)).busy_open k)) z)))

  free : (j : ℕ) → j < b.count → (m : ℕ) → ((i : ℕ) → i < b.count → item_depends w (item_at b i) m ≡ false) → item_depends w (item_at c j) m ≡ false
  free j h m none =
      by_cases (touches xs j)
      (λ z. rw (begin-item w b sound t xs j h, item_touched j (item_at b j) z) (touched_free j z m none))
      (λ z. rw (begin-item w b sound t xs j h, item_else j (item_at b j) z) (none j h))

  -- ---- open transactions

  row_new : OpenRow b.districts n new
  row_new = record {
    touched = set_of-below most_districts b.districts (touches_district b xs) sound.few_districts (λ d h k. (touched-idle b xs sound.belongs f.idles d k).0);
    ready = pow_pos b.districts;
    gave = pow_pos b.districts;
    decisions = omega arith;
    given = omega arith;
    sets = λ d h. record {
      apart = λ k. member-none d;
      ready_touched = λ k. absurd (false≢true (sym (member-none d) ∙ k));
      gave_touched = λ k. absurd (false≢true (sym (member-none d) ∙ k));
      completed_ready = λ k. absurd (omega arith);
    };
  }

  old_row : (o : Open) → OpenRow b.districts b.last.0 o → OpenRow b.districts n o
  old_row o r = record {
    touched = r.touched;
    ready = r.ready;
    gave = r.gave;
    decisions = r.decisions;
    given = omega (arith, r.given);
    sets = r.sets;
  }

  rows : (m : ℕ) → m < w → is_open (open_at c m) ≡ true → OpenRow b.districts n (open_at c m)
  rows m h k =
      by_cases (eqb m q)
      (λ e. rw (here m e) row_new)
      (λ e. rw (other m e) (old_row (open_at b m) (s.opens m h (rw (other m e) at k))))

  differ : (m : ℕ) → m < w → is_open (open_at c m) ≡ true → (j : ℕ) → j < m → (open_at c j).number.0 ≡ (open_at c m).number.0 → ⊥
  differ m h k j l same =
      by_cases (eqb m q)
      (λ e.
      let z : (open_at b j).number.0 ≡ n = rw (here m e, other j (ne_eqb j q (λ z. omega (arith, eqb-true m q e)))) at same in
      omega (arith, given j (omega arith)))
      (λ e. by_cases (eqb j q)
      (λ u. let z : n ≡ (open_at b m).number.0 = rw (here j u, other m e) at same in omega (arith, given m h))
      (λ u. s.differ m h (rw (other m e) at k) j l (rw (other j u, other m e) at same)))

  -- a place that is free is another, and was free
  still_free : (m : ℕ) → is_open (open_at c m) ≡ false → (eqb m q ≡ false) × (is_open (open_at b m) ≡ false)
  still_free m k =
      by_cases (eqb m q)
      (λ e. absurd (true≢false (sym (ap not (ne_eqb n 0 (λ z. omega arith))) ∙ rw (here m e) at k)))
      (λ e. (e, rw (other m e) at k))

  -- ---- the book

  pub begin-but : SoundBut w (begun w b xs)
  unfolding begun
  begin-but = record {
    some_districts = sound.some_districts;
    few_districts = sound.few_districts;
    some_items = sound.some_items;
    few_items = sound.few_items;
    last = f.numbers;
    districts = districts;
    items = items;
    opens = rows;
    differ = differ;
    past_districts = λ e h k. past-rows _ no_record b.districts b.records e k ∙ s.past_districts e h k;
    past_items = λ i h k. past-rows _ void_item b.count b.items i k ∙ s.past_items i h k;
    free = λ m h k. let u = still_free m k in other m u.0 ∙ s.free m h u.1;
    free_unused = λ m h k i a. free i a m (s.free_unused m h (still_free m k).1);
  }

  item_shaped : (i : ℕ) → i < b.count → ShapedItem (begin_item w b xs i (item_at b i))
  item_shaped i h =
      let x : Item = item_at b i in
      let old : ShapedItem x = t.rows i (omega (arith, sound.few_items)) in
      by_cases (touches xs i)
      (λ z. rw (item_touched i x z) (record { held = old.held; pending = packed-rows (results w b xs i) (results-few i z) }))
      (λ z. rw (item_else i x z) old)

  pub begin-shaped : Shaped w (begun w b xs)
  unfolding begun
  begin-shaped = record {
    records = length-rows (λ d r. cond (touches_district b xs d) (begin_record n) r) no_record b.districts b.records ∙ t.records;
    items = length-rows (begin_item w b xs) void_item b.count b.items ∙ t.items;
    places = length-set b.«open» q new ∙ t.places;
    rows = each_row (begin_item w b xs) void_item ShapedItem b.count most_items b.items (omega (arith, t.items)) t.rows item_shaped;
  }
