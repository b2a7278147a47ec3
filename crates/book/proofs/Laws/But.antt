-- Soundness but for one clause, "a decided open transaction has a district on it or a polyvalue that depends on its place": what each event keeps before it forgets.
-- The clauses stand by row here, and say of the rest of the book only what the row is about: the transaction it is on, and its place.
use mathlib.Core.Path.{◌≡◌, refl, sym, ◌∙◌, ap}
use mathlib.Core.Bool.{true, false, cond, true≢false}
use Prim.Native.Nat.{ℕ, ◌^◌, ◌≤◌, ◌<◌}
use native.Mathlib.Omega.{arith}
use lib.Dec.{eqb}
use borrow.Author.Tests.{eq-eqb, eqb-true, eqb-false}
use Rattle.conditions.specs.Sets.{member}
use Rattle.conditions.proofs.Laws.Below.{and_left, and_right, by_cases, any_none, none_any, is-first, first-le, first_passes, before-first}
use Rattle.polyvalues.specs.Polyvalues.{most_pairs, in_use, sound as sound_polyvalue}
use Rattle.polyvalues.specs.Operations.{together}
use Rattle.book.specs.declared.Record.{Record}
use Rattle.book.specs.declared.Item.{Item}
use Rattle.book.specs.declared.Open.{Open}
use Rattle.book.specs.declared.Book.{Book}
use Rattle.book.specs.Book.{most_districts, most_items, last_number, no_record, no_item, no_open, record_at, item_at, open_at, idle, computing, record_on, item_on, is_open, named, place_of, item_depends, some_depends, open_of}
use Rattle.book.specs.Records.{computing_on, waiting_on, busy_on}
use Rattle.book.specs.Forget.{needed}
use Rattle.book.specs.Sound.{EachOpen, Sound}

-- ---- rows

-- the record r of district d, where it is on the transaction o at place q
pub record DistrictRow (w d q : ℕ) (o : Open) (r : Record) : Type 0 where
  pub phases : r.phase ≤ 2
  pub idle_none : idle r ≡ true → r.transaction.0 ≡ 0
  pub busy_open : idle r ≡ false → q < w
  pub busy_touched : idle r ≡ false → member o.touched d ≡ true
  pub waiting_ready : r.phase ≡ 2 → member o.ready d ≡ true
  pub computing_not_ready : r.phase ≡ 1 → member o.ready d ≡ false
  pub computing_not_gave : r.phase ≡ 1 → member o.gave d ≡ false

-- an item on the transaction number n at place q, or on none (0)
pub record ItemRow (w districts n q : ℕ) (x : Item) : Type 0 where
  pub belongs : x.district < districts
  pub held : sound_polyvalue w x.held ≡ true
  pub pending : sound_polyvalue w x.pending ≡ true
  pub idle_same : n ≡ 0 → x.pending ≡ x.held
  pub own_free : 1 ≤ n → item_depends w x q ≡ false
  pub few_together : together (in_use x.held) (in_use x.pending) ≤ most_pairs

-- the sets of an open transaction at district d
pub record SetsAt (o : Open) (d : ℕ) : Type 0 where
  pub apart : member o.ready d ≡ true → member o.gave d ≡ false
  pub ready_touched : member o.ready d ≡ true → member o.touched d ≡ true
  pub gave_touched : member o.gave d ≡ true → member o.touched d ≡ true
  pub completed_ready : o.decision ≡ 1 → member o.touched d ≡ true → member o.ready d ≡ true

-- an open transaction, where the last number given is this
pub record OpenRow (districts last : ℕ) (o : Open) : Type 0 where
  pub touched : o.touched < 2 ^ districts
  pub ready : o.ready < 2 ^ districts
  pub gave : o.gave < 2 ^ districts
  pub decisions : o.decision ≤ 2
  pub given : o.number.0 ≤ last
  pub sets : (d : ℕ) → d < districts → SetsAt o d

-- ---- the book

pub record SoundBut (w : ℕ) (b : Book) : Type 0 where
  pub some_districts : 1 ≤ b.districts
  pub few_districts : b.districts ≤ most_districts
  pub some_items : 1 ≤ b.count
  pub few_items : b.count ≤ most_items
  pub last : b.last.0 ≤ last_number
  pub districts : (d : ℕ) → d < b.districts → DistrictRow w d (place_of w b (record_at b d).transaction.0) (open_of w b (record_at b d).transaction.0) (record_at b d)
  pub items : (i : ℕ) → i < b.count → ItemRow w b.districts (item_on b (item_at b i)) (place_of w b (item_on b (item_at b i))) (item_at b i)
  pub opens : (q : ℕ) → q < w → is_open (open_at b q) ≡ true → OpenRow b.districts b.last.0 (open_at b q)
  pub differ : (q : ℕ) → q < w → is_open (open_at b q) ≡ true → (p : ℕ) → p < q → (open_at b p).number.0 ≡ (open_at b q).number.0 → ⊥
  pub past_districts : (d : ℕ) → d < most_districts → b.districts ≤ d → record_at b d ≡ no_record
  pub past_items : (i : ℕ) → i < most_items → b.count ≤ i → item_at b i ≡ no_item
  pub free : (q : ℕ) → q < w → is_open (open_at b q) ≡ false → open_at b q ≡ no_open
  pub free_unused : (q : ℕ) → q < w → is_open (open_at b q) ≡ false → (i : ℕ) → i < b.count → item_depends w (item_at b i) q ≡ false

pub sound-but : (w : ℕ) (b : Book) → Sound w b → SoundBut w b
unfolding some_depends
sound-but w b s = record {
  some_districts = s.some_districts;
  few_districts = s.few_districts;
  some_items = s.some_items;
  few_items = s.few_items;
  last = s.last;
  districts = λ d h. record {
    phases = s.phases d h;
    idle_none = s.idle_none d h;
    busy_open = s.busy_open d h;
    busy_touched = s.busy_touched d h;
    waiting_ready = s.waiting_ready d h;
    computing_not_ready = s.computing_not_ready d h;
    computing_not_gave = s.computing_not_gave d h;
  };
  items = λ i h. record {
    belongs = s.belongs i h;
    held = s.held i h;
    pending = s.pending i h;
    idle_same = s.idle_same i h;
    own_free = s.own_free i h;
    few_together = s.few_together i h;
  };
  opens = λ q h k. record {
    touched = s.touched q h k;
    ready = s.ready q h k;
    gave = s.gave q h k;
    decisions = s.decisions q h k;
    given = s.given q h k;
    sets = λ d l. record {
      apart = s.apart q h k d l;
      ready_touched = s.ready_touched q h k d l;
      gave_touched = s.gave_touched q h k d l;
      completed_ready = λ v. s.completed_ready q h k v d l;
    };
  };
  differ = s.differ;
  past_districts = s.past_districts;
  past_items = s.past_items;
  free = s.free;
  free_unused = λ q h k. any_none b.count (λ i. item_depends w (item_at b i) q) (s.free_unused q h k);
}

-- and with that clause
pub but-sound : (w : ℕ) (b : Book) → SoundBut w b → EachOpen w b (λ q o. 1 ≤ o.decision → needed w b q o ≡ true) → Sound w b
unfolding some_depends
but-sound w b s n = record {
  some_districts = s.some_districts;
  few_districts = s.few_districts;
  some_items = s.some_items;
  few_items = s.few_items;
  belongs = λ i h. (s.items i h).belongs;
  held = λ i h. (s.items i h).held;
  pending = λ i h. (s.items i h).pending;
  phases = λ d h. (s.districts d h).phases;
  last = s.last;
  touched = λ q h k. (s.opens q h k).touched;
  ready = λ q h k. (s.opens q h k).ready;
  gave = λ q h k. (s.opens q h k).gave;
  decisions = λ q h k. (s.opens q h k).decisions;
  past_districts = s.past_districts;
  past_items = s.past_items;
  free = s.free;
  free_unused = λ q h k. none_any b.count (λ i. item_depends w (item_at b i) q) (s.free_unused q h k);
  differ = s.differ;
  given = λ q h k. (s.opens q h k).given;
  idle_none = λ d h. (s.districts d h).idle_none;
  decided_needed = n;
  busy_open = λ d h. (s.districts d h).busy_open;
  busy_touched = λ d h. (s.districts d h).busy_touched;
  waiting_ready = λ d h. (s.districts d h).waiting_ready;
  computing_not_ready = λ d h. (s.districts d h).computing_not_ready;
  computing_not_gave = λ d h. (s.districts d h).computing_not_gave;
  apart = λ q h k d l. ((s.opens q h k).sets d l).apart;
  ready_touched = λ q h k d l. ((s.opens q h k).sets d l).ready_touched;
  gave_touched = λ q h k d l. ((s.opens q h k).sets d l).gave_touched;
  completed_ready = λ q h k v d l. ((s.opens q h k).sets d l).completed_ready v;
  idle_same = λ i h. (s.items i h).idle_same;
  own_free = λ i h. (s.items i h).own_free;
  few_together = λ i h. (s.items i h).few_together;
}

-- ---- the place of a number in another book

-- a number open at its place, that no earlier place has
pub place_of-is : (w : ℕ) (b : Book) (n p : ℕ) → p < w → named n (open_at b p) ≡ true → ((j : ℕ) → j < p → named n (open_at b j) ≡ false) → place_of w b n ≡ p
unfolding place_of
place_of-is w b n p h e f = sym (is-first w (λ q. named n (open_at b q)) p (omega arith) f (λ l. e))

-- a number that keeps its place
pub place_of-kept : (w : ℕ) (b c : Book) (n : ℕ) → place_of w b n < w → named n (open_at c (place_of w b n)) ≡ named n (open_at b (place_of w b n))
    → ((j : ℕ) → j < place_of w b n → named n (open_at b j) ≡ false → named n (open_at c j) ≡ false) → place_of w c n ≡ place_of w b n
unfolding place_of
place_of-kept w b c n h e f =
    place_of-is w c n (place_of w b n) h (e ∙ first_passes w (λ q. named n (open_at b q)) h) (λ j l. f j l (before-first w (λ q. named n (open_at b q)) j l))

-- a book with the same numbers at its places
pub place_of-same : (w : ℕ) (b c : Book) → ((q : ℕ) → (open_at c q).number ≡ (open_at b q).number) → (n : ℕ) → place_of w c n ≡ place_of w b n
unfolding place_of
place_of-same w b c e n =
    sym (is-first w (λ q. named n (open_at c q)) (place_of w b n) (first-le w (λ q. named n (open_at b q)))
    (λ j l. rw (e j) (before-first w (λ q. named n (open_at b q)) j l))
    (λ l. rw (e (place_of w b n)) (first_passes w (λ q. named n (open_at b q)) l)))

-- ---- rows that stay in a book that changes

-- what district d sees of an open transaction is as it was
pub record Seen (d : ℕ) (o p : Open) : Type 0 where
  pub touched : member p.touched d ≡ member o.touched d
  pub ready : member p.ready d ≡ member o.ready d
  pub gave : member p.gave d ≡ member o.gave d

pub seen_same : (d : ℕ) (o p : Open) → p ≡ o → Seen d o p
seen_same d o p e = record { touched = rw e; ready = rw e; gave = rw e }

-- of each transaction, where that at place q is as it was
pub seen_at : (b c : Book) (q e : ℕ) (o : Open) → ((m : ℕ) → open_at c m ≡ cond (eqb m q) o (open_at b m)) → Seen e (open_at b q) o → (m : ℕ) → Seen e (open_at b m) (open_at c m)
seen_at b c q e o opens seen m =
    by_cases (eqb m q)
    (λ z. rw (opens m, z, eqb-true m q z) seen)
    (λ z. seen_same e (open_at b m) (open_at c m) (opens m ∙ rw z))

-- a row set to o, of which something stays: it stays at every place
pub row-alike : {A : Type 0} (f : Open → A) (b : Book) (q : ℕ) (o : Open) → f o ≡ f (open_at b q) → (m : ℕ) → f (cond (eqb m q) o (open_at b m)) ≡ f (open_at b m)
row-alike f b q o e m = by_cases (eqb m q) (λ z. rw (z, eqb-true m q z) e) (λ z. rw z)

-- a row set to itself
pub row-own : (b : Book) (q m : ℕ) → open_at b m ≡ cond (eqb m q) (open_at b q) (open_at b m)
row-own b q m = sym (row-alike (λ o. o) b q (open_at b q) refl m)

pub district-stays : (w d q u : ℕ) (o p : Open) (r : Record) → DistrictRow w d q o r → (idle r ≡ false → u ≡ q) → (idle r ≡ false → Seen d o p) → DistrictRow w d u p r
district-stays w d q u o p r f place seen = record {
  phases = f.phases;
  idle_none = f.idle_none;
  busy_open = λ k. rw (place k) (f.busy_open k);
  busy_touched = λ k. (seen k).touched ∙ f.busy_touched k;
  waiting_ready = λ k. (seen (ap (λ (n : ℕ). eqb n 0) k)).ready ∙ f.waiting_ready k;
  computing_not_ready = λ k. (seen (ap (λ (n : ℕ). eqb n 0) k)).ready ∙ f.computing_not_ready k;
  computing_not_gave = λ k. (seen (ap (λ (n : ℕ). eqb n 0) k)).gave ∙ f.computing_not_gave k;
}

pub item-stays : (w districts n m q u : ℕ) (x : Item) → ItemRow w districts n q x → m ≡ n → (1 ≤ n → u ≡ q) → ItemRow w districts m u x
item-stays w districts n m q u x f same place = record {
  belongs = f.belongs;
  held = f.held;
  pending = f.pending;
  idle_same = λ k. f.idle_same (sym same ∙ k);
  own_free = λ k. let l : 1 ≤ n = omega (arith, same) in rw (place l) (f.own_free l);
  few_together = f.few_together;
}

-- a record that is on a transaction is busy
pub on-busy : (r : Record) → 1 ≤ record_on r → (idle r ≡ false) × (record_on r ≡ r.transaction.0)
unfolding record_on
on-busy r h = by_cases (idle r) (λ e. let none : record_on r ≡ 0 = rw e in absurd (omega arith)) (λ e. (e, rw e))

pub busy-on : (r : Record) → idle r ≡ false → record_on r ≡ r.transaction.0
unfolding record_on
busy-on r e = rw e

-- an item's transaction keeps its place where its district's does
pub item-place : (w : ℕ) (b c : Book) (x : Item)
    → (idle (record_at b x.district) ≡ false → place_of w c (record_at b x.district).transaction.0 ≡ place_of w b (record_at b x.district).transaction.0)
    → 1 ≤ item_on b x → place_of w c (item_on b x) ≡ place_of w b (item_on b x)
unfolding item_on
item-place w b c x place k = let busy = on-busy (record_at b x.district) k in rw busy.1 (place busy.0)

-- what is at the place of an open number is open
pub place-open : (w : ℕ) (b : Book) (n : ℕ) → place_of w b n < w → is_open (open_at b (place_of w b n)) ≡ true
unfolding place_of
place-open w b n h = and_left (is_open (open_at b (place_of w b n))) _ (first_passes w (λ q. named n (open_at b q)) h)

-- a record that is computing, or busy, on the number n
pub computing-on : (n : ℕ) (r : Record) → computing_on n r ≡ true → (r.phase ≡ 1) × (r.transaction.0 ≡ n)
unfolding computing_on
computing-on n r e = (eqb-true r.phase 1 (and_left (eqb r.phase 1) _ e), eqb-true r.transaction.0 n (and_right (eqb r.phase 1) _ e))

pub busy-is : (n : ℕ) (r : Record) → busy_on n r ≡ true → (idle r ≡ false) × (r.transaction.0 ≡ n)
unfolding busy_on computing_on waiting_on
busy-is n r e =
    by_cases (computing_on n r)
    (λ t. (ap (λ (p : ℕ). eqb p 0) (computing-on n r t).0, (computing-on n r t).1))
    (λ t.
    let u : waiting_on n r ≡ true = rw t at e in
    (ap (λ (p : ℕ). eqb p 0) (eqb-true r.phase 2 (and_left (eqb r.phase 2) _ u)), eqb-true r.transaction.0 n (and_right (eqb r.phase 2) _ u)))

-- a busy record is computing or waiting on its number
pub is-busy : (n : ℕ) (r : Record) → r.phase ≤ 2 → idle r ≡ false → r.transaction.0 ≡ n → busy_on n r ≡ true
unfolding busy_on computing_on waiting_on
is-busy n r h k e =
    by_cases (computing r)
    (λ t. rw (t, eq-eqb r.transaction.0 n e))
    (λ t.
    let two : r.phase ≡ 2 = omega (arith, eqb-false r.phase 1 t, eqb-false r.phase 0 k) in
    rw (t, eq-eqb r.phase 2 two, eq-eqb r.transaction.0 n e))

-- an idle record is sound in any district
pub idle-district : (w d q : ℕ) (o : Open) → DistrictRow w d q o no_record
idle-district w d q o = record {
  phases = omega arith;
  idle_none = λ k. refl;
  busy_open = λ k. absurd (true≢false k);
  busy_touched = λ k. absurd (true≢false k);
  waiting_ready = λ k. absurd (omega arith);
  computing_not_ready = λ k. absurd (omega arith);
  computing_not_gave = λ k. absurd (omega arith);
}
