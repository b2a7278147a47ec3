-- Ready: sound in, sound out.
use mathlib.Core.Path.{◌≡◌, refl, sym, ◌∙◌, ap}
use mathlib.Core.Bool.{true, false, cond, false≢true}
use Prim.Native.Nat.{ℕ, ◌<◌}
use native.Mathlib.Nat.{lt_of_lt_of_le}
use native.Mathlib.Omega.{arith}
use lib.Dec.{eqb}
use lib.ListN.{length-set}
use borrow.Author.Tests.{eqb-true, eq-eqb, ne_eqb}
use Rattle.conditions.proofs.Laws.Below.{by_cases}
use Rattle.conditions.proofs.Laws.Places.{place-below, member-set}
use Rattle.book.specs.declared.Record.{Record}
use Rattle.book.specs.declared.Item.{Item}
use Rattle.book.specs.declared.Open.{Open}
use Rattle.book.specs.declared.Book.{Book}
use Rattle.book.specs.Book.{most_districts, no_record, no_open, record_at, item_at, open_at, idle, record_on, item_on, place_of, open_of}
use Rattle.book.specs.Records.{computing_on, ready_record}
use Rattle.book.specs.Ready.{reported, readied}
use Rattle.book.proofs.Laws.Including.{including-other}
use Rattle.book.specs.Shaped.{Shaped}
use Rattle.book.proofs.Laws.Rows.{get_or-set}
use Rattle.book.proofs.Laws.But.{DistrictRow, OpenRow, SoundBut, Seen, seen_at, district-stays, item-stays, place-open, computing-on}
use Rattle.book.proofs.Laws.Changing.{change-but}

pub ready-shaped : (w : ℕ) (b : Book) (n d : ℕ) → Shaped w b → Shaped w (readied w b n d)
unfolding readied
ready-shaped w b n d t = record {
  records = length-set b.records d _ ∙ t.records;
  items = t.items;
  places = length-set b.«open» (place_of w b n) _ ∙ t.places;
  rows = t.rows;
}

module _ (w : ℕ) (b : Book) (s : SoundBut w b) (t : Shaped w b) (n d : ℕ) (p : place_of w b n < w) (l : d < b.districts) (on : computing_on n (record_at b d) ≡ true) where
  abbrev q : ℕ
  q = place_of w b n

  abbrev o : Open
  o = open_of w b n

  abbrev r : Record
  r = record_at b d

  abbrev c : Book
  c = readied w b n d

  busy : idle r ≡ false
  busy = ap (λ (m : ℕ). eqb m 0) (computing-on n r on).0

  number : r.transaction.0 ≡ n
  number = (computing-on n r on).1

  -- the district as it was
  was : DistrictRow w d q o r
  was = rw number at (s.districts d l)

  -- the records afterwards, and the places
  pub ready-records : (e : ℕ) → record_at (readied w b n d) e ≡ cond (eqb e d) (ready_record (record_at b d)) (record_at b e)
  unfolding readied
  ready-records e = get_or-set b.records d (ready_record r) no_record e (omega (arith, l, s.few_districts, t.records))

  pub ready-opens : (m : ℕ) → open_at (readied w b n d) m ≡ cond (eqb m (place_of w b n)) (reported d (open_of w b n)) (open_at b m)
  unfolding readied
  ready-opens m = get_or-set b.«open» q (reported d o) no_open m (omega (arith, t.places))

  -- the row of the transaction
  old : OpenRow b.districts b.last.0 o
  old = s.opens q p (place-open w b n p)

  row : OpenRow b.districts b.last.0 (reported d o)
  row = record {
    touched = old.touched;
    ready = place-below most_districts b.districts o.ready d true s.few_districts old.ready l;
    gave = old.gave;
    decisions = old.decisions;
    given = old.given;
    sets = λ e h. record {
      apart = λ k.
          by_cases (eqb e d)
          (λ m. rw (eqb-true e d m) (was.computing_not_gave (computing-on n r on).0))
          (λ m. (old.sets e h).apart (sym (including-other o.ready d e (lt_of_lt_of_le h s.few_districts) m) ∙ k));
      ready_touched = λ k.
          by_cases (eqb e d)
          (λ m. rw (eqb-true e d m) (was.busy_touched busy))
          (λ m. (old.sets e h).ready_touched (sym (including-other o.ready d e (lt_of_lt_of_le h s.few_districts) m) ∙ k));
      gave_touched = (old.sets e h).gave_touched;
      completed_ready = λ v k.
          by_cases (eqb e d)
          (λ m. rw (eqb-true e d m) (member-set most_districts o.ready d true (lt_of_lt_of_le l s.few_districts)))
          (λ m. including-other o.ready d e (lt_of_lt_of_le h s.few_districts) m ∙ (old.sets e h).completed_ready v k);
    };
  }

  -- ---- districts

  own : DistrictRow w d q (reported d o) (ready_record r)
  own = record {
    phases = omega arith;
    idle_none = λ k. absurd (false≢true k);
    busy_open = λ k. p;
    busy_touched = λ k. was.busy_touched busy;
    waiting_ready = λ k. member-set most_districts o.ready d true (lt_of_lt_of_le l s.few_districts);
    computing_not_ready = λ k. absurd (omega arith);
    computing_not_gave = λ k. absurd (omega arith);
  }

  seen : (e m : ℕ) → e < b.districts → eqb e d ≡ false → Seen e (open_at b m) (open_at c m)
  seen e m h k = seen_at b c q e (reported d o) ready-opens (record { touched = refl; ready = including-other o.ready d e (lt_of_lt_of_le h s.few_districts) k; gave = refl }) m

  districts : (e : ℕ) → e < b.districts → DistrictRow w e (place_of w b (record_at c e).transaction.0) (open_at c (place_of w b (record_at c e).transaction.0)) (record_at c e)
  districts e h =
      by_cases (eqb e d)
      (λ k. rw (ready-records e, k, eqb-true e d k, number, ready-opens q, eq-eqb q q refl) own)
      (λ k. rw (ready-records e, k) (district-stays w e _ _ _ _ (record_at b e) (s.districts e h) (λ z. refl) (λ z. seen e _ h k)))

  -- ---- items

  items_on : (x : Item) → item_on c x ≡ item_on b x
  unfolding item_on record_on
  items_on x =
      by_cases (eqb x.district d)
      (λ k. rw (ready-records x.district, k, eqb-true x.district d k, busy))
      (λ k. rw (ready-records x.district, k))

  pub ready-but : SoundBut w (readied w b n d)
  unfolding readied
  ready-but =
      change-but w b s _ b.items _ q (reported d o) (record {
        place = p;
        was_open = place-open w b n p;
        number = refl;
        opens = ready-opens;
        row = row;
        districts = districts;
        items = λ i h. item-stays w b.districts _ _ _ _ (item_at b i) (s.items i h) (items_on (item_at b i)) (λ z. ap (place_of w b) (items_on (item_at b i)));
        past_districts = λ e h k. ready-records e ∙ rw (ne_eqb e d (λ z. omega arith)) (s.past_districts e h k);
        past_items = s.past_items;
        free_unused = s.free_unused;
      })
