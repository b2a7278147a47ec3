-- The test of soundness agrees with the proposition, both ways.
use mathlib.Core.Path.{◌≡◌, refl, ap, ap₂}
use mathlib.Core.Bool.{Bool, true, false, not, ◌&&◌, cond, true≢false, false≢true}
use Prim.Native.Nat.{ℕ, ◌^◌, ◌≤◌, ◌<◌}
use native.Mathlib.Omega.{arith}
use lib.Dec.{eqb, leb, ltb}
use borrow.Author.Tests.{ltb-true, leb-true, eqb-true, eqb-false, ltb-false, not-true, lt-ltb, le-ltb, le-leb, eq-eqb, ne_eqb}
use Rattle.conditions.specs.Below.{all}
use Rattle.conditions.specs.Sets.{member}
use Rattle.conditions.proofs.Laws.Below.{and_left, and_right, by_cases, three, five, eight, all-at, all_of, any_none, first_passes}
use Rattle.polyvalues.specs.Polyvalues.{most_pairs, in_use, sound as sound_polyvalue}
use Rattle.polyvalues.specs.Operations.{together}
use Rattle.book.specs.declared.Record.{Record}
use Rattle.book.specs.declared.Item.{Item}
use Rattle.book.specs.declared.Open.{Open}
use Rattle.book.specs.declared.Book.{Book}
use Rattle.book.specs.Book.{most_districts, most_items, last_number, no_item, record_at, item_at, open_at, idle, waiting, item_on, is_open, named, place_of, record_on, item_depends, some_depends, open_of}
use Rattle.book.specs.Forget.{kept}
use Rattle.book.specs.Sound.{Sound}
use Rattle.book.specs.SoundTest.{zero_record, zero_open, sound_busy, sound_record, sound_district, sound_pending, sound_row, sound_item, sound_at, sound_open, sound_place, sound}
use Rattle.book.proofs.Laws.But.{DistrictRow, ItemRow, SetsAt, OpenRow, sound-but, but-sound}
use Rattle.book.proofs.Laws.Forget.{kept-needed, needed-kept}
use Rattle.book.proofs.Laws.Same.{same-polyvalue, polyvalue-same, same_item-is, item-same, zero-record, zero-open}

-- a test of two cases, in the case that holds
if-true : (t : Bool) (x y : Bool) → cond t x y ≡ true → t ≡ true → x ≡ true
if-true true x y e h = e
if-true false x y e h = absurd (false≢true h)

if-false : (t : Bool) (x y : Bool) → cond t x y ≡ true → t ≡ false → y ≡ true
if-false true x y e h = absurd (true≢false h)
if-false false x y e h = e

-- and from each of them
if-both : (t : Bool) (x y : Bool) → (t ≡ true → x ≡ true) → (t ≡ false → y ≡ true) → cond t x y ≡ true
if-both true x y f g = f refl
if-both false x y f g = g refl

-- ---- districts

test-record : (w : ℕ) (b : Book) (d : ℕ) (r : Record) → sound_record w b d r ≡ true → DistrictRow w d (place_of w b r.transaction.0) (open_of w b r.transaction.0) r
unfolding sound_record sound_busy
test-record w b d r e =
    let q = place_of w b r.transaction.0 in
    let o = open_of w b r.transaction.0 in
    let known : Bool = cond (waiting r) (member o.ready d) (not (member o.ready d) && not (member o.gave d)) in
    let t = and_right (leb r.phase 2) _ e in
    let busy : idle r ≡ false → (ltb q w ≡ true) × (member o.touched d ≡ true) × (known ≡ true) =
    λ h. three (ltb q w) (member o.touched d) known (if-false (idle r) _ _ t h) in
    let neither : r.phase ≡ 1 → (not (member o.ready d) && not (member o.gave d)) ≡ true =
    λ h. if-false (waiting r) _ _ (busy (ap (λ (n : ℕ). eqb n 0) h)).2 (ap (λ (n : ℕ). eqb n 2) h) in
    record {
      phases = leb-true r.phase 2 (and_left (leb r.phase 2) _ e);
      idle_none = λ h. eqb-true r.transaction.0 0 (if-true (idle r) _ _ t h);
      busy_open = λ h. ltb-true q w (busy h).0;
      busy_touched = λ h. (busy h).1;
      waiting_ready = λ h. if-true (waiting r) _ _ (busy (ap (λ (n : ℕ). eqb n 0) h)).2 (eq-eqb r.phase 2 h);
      computing_not_ready = λ h. not-true _ (and_left (not (member o.ready d)) _ (neither h));
      computing_not_gave = λ h. not-true _ (and_right (not (member o.ready d)) _ (neither h));
    }

record-test : (w : ℕ) (b : Book) (d : ℕ) (r : Record) → DistrictRow w d (place_of w b r.transaction.0) (open_of w b r.transaction.0) r → sound_record w b d r ≡ true
unfolding sound_record sound_busy
record-test w b d r f =
    ap₂ ◌&&◌ (le-leb r.phase 2 f.phases)
    (if-both (idle r) _ _
    (λ h. eq-eqb r.transaction.0 0 (f.idle_none h))
    (λ h.
    ap₂ ◌&&◌ (ap₂ ◌&&◌ (lt-ltb (place_of w b r.transaction.0) w (f.busy_open h)) (f.busy_touched h))
    (if-both (waiting r) _ _
    (λ k. f.waiting_ready (eqb-true r.phase 2 k))
    (λ k.
    let one : r.phase ≡ 1 = omega (arith, f.phases, eqb-false r.phase 2 k, eqb-false r.phase 0 h) in
    ap₂ ◌&&◌ (ap not (f.computing_not_ready one)) (ap not (f.computing_not_gave one))))))

-- ---- items

test-row : (w : ℕ) (b : Book) (x : Item) → sound_row w b x ≡ true → ItemRow w b.districts (item_on b x) (place_of w b (item_on b x)) x
unfolding sound_row sound_pending
test-row w b x e =
    let n = item_on b x in
    let t = five (ltb x.district b.districts) (sound_polyvalue w x.held) (sound_polyvalue w x.pending) (sound_pending w b n x) (leb (together (in_use x.held) (in_use x.pending)) most_pairs) e in
    record {
      belongs = ltb-true x.district b.districts t.0;
      held = t.1;
      pending = t.2;
      idle_same = λ h. same-polyvalue x.pending x.held (if-true (eqb n 0) _ _ t.3 (eq-eqb n 0 h));
      own_free = λ h. not-true _ (if-false (eqb n 0) _ _ t.3 (ne_eqb n 0 (λ z. omega arith)));
      few_together = leb-true (together (in_use x.held) (in_use x.pending)) most_pairs t.4;
    }

row-test : (w : ℕ) (b : Book) (x : Item) → ItemRow w b.districts (item_on b x) (place_of w b (item_on b x)) x → sound_row w b x ≡ true
unfolding sound_row sound_pending
row-test w b x f =
    let n = item_on b x in
    ap₂ ◌&&◌
    (ap₂ ◌&&◌ (ap₂ ◌&&◌ (ap₂ ◌&&◌ (lt-ltb x.district b.districts f.belongs) f.held) f.pending)
    (if-both (eqb n 0) _ _ (λ h. polyvalue-same x.pending x.held (f.idle_same (eqb-true n 0 h))) (λ h. ap not (f.own_free (omega (arith, eqb-false n 0 h))))))
    (le-leb (together (in_use x.held) (in_use x.pending)) most_pairs f.few_together)

-- ---- places

test_at : (o : Open) (d : ℕ) → sound_at o d ≡ true → SetsAt o d
unfolding sound_at
test_at o d e =
    let r = member o.ready d in
    let g = member o.gave d in
    let u = member o.touched d in
    let t = three (cond r (not g && u) true) (cond g u true) (cond (eqb o.decision 1 && u) r true) e in
    record {
      apart = λ h. not-true g (and_left (not g) u (if-true r _ _ t.0 h));
      ready_touched = λ h. and_right (not g) u (if-true r _ _ t.0 h);
      gave_touched = λ h. if-true g _ _ t.1 h;
      completed_ready = λ h k. if-true (eqb o.decision 1 && u) _ _ t.2 (ap₂ ◌&&◌ (eq-eqb o.decision 1 h) k);
    }

at_test : (o : Open) (d : ℕ) → SetsAt o d → sound_at o d ≡ true
unfolding sound_at
at_test o d f =
    let r = member o.ready d in
    let g = member o.gave d in
    let u = member o.touched d in
    ap₂ ◌&&◌ (ap₂ ◌&&◌
    (if-both r _ _ (λ h. ap₂ ◌&&◌ (ap not (f.apart h)) (f.ready_touched h)) (λ h. refl))
    (if-both g _ _ (λ h. f.gave_touched h) (λ h. refl)))
    (if-both (eqb o.decision 1 && u) _ _
    (λ h. f.completed_ready (eqb-true o.decision 1 (and_left (eqb o.decision 1) u h)) (and_right (eqb o.decision 1) u h))
    (λ h. refl))

-- the open transaction o at place q
record Used (w : ℕ) (b : Book) (q : ℕ) (o : Open) : Type 0 where
  row : OpenRow b.districts b.last.0 o
  differ : (p : ℕ) → p < q → (open_at b p).number.0 ≡ o.number.0 → ⊥
  stays : kept w b q o ≡ true

test-open : (w : ℕ) (b : Book) (q : ℕ) (o : Open) → sound_open w b q o ≡ true → Used w b q o
unfolding sound_open
test-open w b q o e =
    let apart : ℕ → Bool = λ p. not (eqb (open_at b p).number.0 o.number.0) in
    let n = 2 ^ b.districts in
    let t = eight (ltb o.touched n) (ltb o.ready n) (ltb o.gave n) (leb o.decision 2) (all q apart) (leb o.number.0 b.last.0)
    (kept w b q o) (all b.districts (sound_at o)) e in
    record {
      row = record {
        touched = ltb-true o.touched n t.0;
        ready = ltb-true o.ready n t.1;
        gave = ltb-true o.gave n t.2;
        decisions = leb-true o.decision 2 t.3;
        given = leb-true o.number.0 b.last.0 t.5;
        sets = λ d h. test_at o d (all-at b.districts (sound_at o) t.7 d h);
      };
      differ = λ p h. eqb-false (open_at b p).number.0 o.number.0 (not-true _ (all-at q apart t.4 p h));
      stays = t.6;
    }

open-test : (w : ℕ) (b : Book) (q : ℕ) (o : Open) → Used w b q o → sound_open w b q o ≡ true
unfolding sound_open
open-test w b q o f =
    let n = 2 ^ b.districts in
    let r = f.row in
    ap₂ ◌&&◌ (ap₂ ◌&&◌ (ap₂ ◌&&◌ (ap₂ ◌&&◌ (ap₂ ◌&&◌ (ap₂ ◌&&◌ (ap₂ ◌&&◌
    (lt-ltb o.touched n r.touched)
    (lt-ltb o.ready n r.ready))
    (lt-ltb o.gave n r.gave))
    (le-leb o.decision 2 r.decisions))
    (all_of q (λ p. not (eqb (open_at b p).number.0 o.number.0)) (λ p h. ap not (ne_eqb (open_at b p).number.0 o.number.0 (f.differ p h)))))
    (le-leb o.number.0 b.last.0 r.given))
    f.stays)
    (all_of b.districts (sound_at o) (λ d h. at_test o d (r.sets d h)))

-- ---- the book

pub test-sound : (w : ℕ) (b : Book) → sound w b ≡ true → Sound w b
unfolding sound sound_district sound_item sound_place some_depends
test-sound w b e =
    let t = eight (leb 1 b.districts) (leb b.districts most_districts) (leb 1 b.count) (leb b.count most_items) (leb b.last.0 last_number)
    (all most_districts (sound_district w b)) (all most_items (sound_item w b)) (all w (sound_place w b)) e in
    let few_d : b.districts ≤ most_districts = leb-true b.districts most_districts t.1 in
    let few_i : b.count ≤ most_items = leb-true b.count most_items t.3 in
    let used : (q : ℕ) → q < w → is_open (open_at b q) ≡ true → Used w b q (open_at b q) =
    λ q h k. test-open w b q (open_at b q) (if-true (is_open (open_at b q)) _ _ (all-at w (sound_place w b) t.7 q h) k) in
    let vacant : (q : ℕ) → q < w → is_open (open_at b q) ≡ false → (zero_open (open_at b q) && not (some_depends w b q)) ≡ true =
    λ q h k. if-false (is_open (open_at b q)) _ _ (all-at w (sound_place w b) t.7 q h) k in
    but-sound w b (record {
      some_districts = leb-true 1 b.districts t.0;
      few_districts = few_d;
      some_items = leb-true 1 b.count t.2;
      few_items = few_i;
      last = leb-true b.last.0 last_number t.4;
      districts = λ d h. test-record w b d (record_at b d) (if-true (ltb d b.districts) _ _ (all-at most_districts (sound_district w b) t.5 d (omega arith)) (lt-ltb d b.districts h));
      items = λ i h. test-row w b (item_at b i) (if-true (ltb i b.count) _ _ (all-at most_items (sound_item w b) t.6 i (omega arith)) (lt-ltb i b.count h));
      opens = λ q h k. (used q h k).row;
      differ = λ q h k. (used q h k).differ;
      past_districts = λ d h k. zero-record (record_at b d) (if-false (ltb d b.districts) _ _ (all-at most_districts (sound_district w b) t.5 d h) (le-ltb d b.districts k));
      past_items = λ i h k. same_item-is (item_at b i) no_item (if-false (ltb i b.count) _ _ (all-at most_items (sound_item w b) t.6 i h) (le-ltb i b.count k));
      free = λ q h k. zero-open (open_at b q) (and_left (zero_open (open_at b q)) _ (vacant q h k));
      free_unused = λ q h k. any_none b.count (λ i. item_depends w (item_at b i) q) (not-true _ (and_right (zero_open (open_at b q)) _ (vacant q h k)));
    })
    (λ q h k. kept-needed w b q (open_at b q) (used q h k).stays)

pub sound-test : (w : ℕ) (b : Book) → Sound w b → sound w b ≡ true
unfolding sound sound_district sound_item sound_place zero_record zero_open
sound-test w b s =
    let t = sound-but w b s in
    ap₂ ◌&&◌ (ap₂ ◌&&◌ (ap₂ ◌&&◌ (ap₂ ◌&&◌ (ap₂ ◌&&◌ (ap₂ ◌&&◌ (ap₂ ◌&&◌
    (le-leb 1 b.districts s.some_districts)
    (le-leb b.districts most_districts s.few_districts))
    (le-leb 1 b.count s.some_items))
    (le-leb b.count most_items s.few_items))
    (le-leb b.last.0 last_number s.last))
    (all_of most_districts (sound_district w b) (λ d l.
    if-both (ltb d b.districts) _ _
    (λ e. record-test w b d (record_at b d) (t.districts d (ltb-true d b.districts e)))
    (λ e. ap zero_record (s.past_districts d l (omega (arith, ltb-false d b.districts e)))))))
    (all_of most_items (sound_item w b) (λ i l.
    if-both (ltb i b.count) _ _
    (λ e. row-test w b (item_at b i) (t.items i (ltb-true i b.count e)))
    (λ e. item-same (item_at b i) no_item (s.past_items i l (omega (arith, ltb-false i b.count e)))))))
    (all_of w (sound_place w b) (λ q l.
    if-both (is_open (open_at b q)) _ _
    (λ e. open-test w b q (open_at b q) (record { row = t.opens q l e; differ = s.differ q l e; stays = needed-kept w b q (open_at b q) (s.decided_needed q l e) }))
    (λ e. ap₂ ◌&&◌ (ap zero_open (s.free q l e)) (ap not (s.free_unused q l e)))))

-- ---- what a sound book is read by

-- the transaction at the place of an open number has that number, and it is not 0
pub place-named : (w : ℕ) (b : Book) (n : ℕ) → place_of w b n < w → ((open_at b (place_of w b n)).number.0 ≡ n) × (1 ≤ n)
unfolding place_of
place-named w b n h =
    let o = open_at b (place_of w b n) in
    let t = first_passes w (λ q. named n (open_at b q)) h in
    let is : o.number.0 ≡ n = eqb-true o.number.0 n (and_right (is_open o) _ t) in
    let some : o.number.0 ≡ 0 → ⊥ = eqb-false o.number.0 0 (not-true _ (and_left (is_open o) _ t)) in
    (is, omega arith)

-- an item is on no transaction exactly where its district is idle
pub on_none : (w : ℕ) (b : Book) → Sound w b → (i : ℕ) → i < b.count → eqb (item_on b (item_at b i)) 0 ≡ idle (record_at b (item_at b i).district)
unfolding item_on record_on
on_none w b s i h =
    let d = (item_at b i).district in
    let r = record_at b d in
    by_cases (idle r)
    (λ e. rw e)
    (λ e. rw e (ne_eqb r.transaction.0 0 (λ z. omega (arith, (place-named w b r.transaction.0 (s.busy_open d (s.belongs i h) e)).1))))
