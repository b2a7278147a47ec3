-- Complete and abort: sound in, sound out.
use mathlib.Core.Path.{◌≡◌, refl, ◌∙◌}
use mathlib.Core.Bool.{true, cond}
use Prim.Native.Nat.{ℕ, ◌≤◌, ◌<◌}
use native.Mathlib.Omega.{arith}
use lib.Dec.{eqb}
use lib.ListN.{length-set}
use Rattle.conditions.specs.Sets.{member}
use Rattle.book.specs.declared.Open.{Open}
use Rattle.book.specs.declared.Book.{Book}
use Rattle.book.specs.Book.{no_open, record_at, open_at, item_on, place_of, open_of}
use Rattle.book.specs.Decide.{with_decision, decide}
use Rattle.book.specs.Shaped.{Shaped}
use Rattle.book.proofs.Laws.Rows.{get_or-set}
use Rattle.book.proofs.Laws.But.{OpenRow, SoundBut, Seen, seen_at, district-stays, place-open}
use Rattle.book.proofs.Laws.Changing.{change-but}

pub decide-shaped : (w : ℕ) (b : Book) (n v : ℕ) → Shaped w b → Shaped w (decide w b n v)
unfolding decide
decide-shaped w b n v t =
    record { records = t.records; items = t.items; places = length-set b.«open» (place_of w b n) _ ∙ t.places; rows = t.rows }

module _ (w : ℕ) (b : Book) (s : SoundBut w b) (t : Shaped w b) (n : ℕ) (p : place_of w b n < w) where
  abbrev q : ℕ
  q = place_of w b n

  abbrev o : Open
  o = open_of w b n

  old : OpenRow b.districts b.last.0 o
  old = s.opens q p (place-open w b n p)

  -- the places afterwards
  pub decide-opens : (v m : ℕ) → open_at (decide w b n v) m ≡ cond (eqb m (place_of w b n)) (with_decision v (open_of w b n)) (open_at b m)
  unfolding decide
  decide-opens v m = get_or-set b.«open» q (with_decision v o) no_open m (omega (arith, t.places))

  -- "a completed transaction has every touched district ready"
  pub decide-but : (v : ℕ) → v ≤ 2 → (v ≡ 1 → (d : ℕ) → d < b.districts → member o.touched d ≡ true → member o.ready d ≡ true) → SoundBut w (decide w b n v)
  unfolding decide item_on
  decide-but v few ready =
      change-but w b s b.records b.items _ q (with_decision v o) (record {
        place = p;
        was_open = place-open w b n p;
        number = refl;
        opens = decide-opens v;
        row = record {
          touched = old.touched;
          ready = old.ready;
          gave = old.gave;
          decisions = few;
          given = old.given;
          sets = λ d h. record {
            apart = (old.sets d h).apart;
            ready_touched = (old.sets d h).ready_touched;
            gave_touched = (old.sets d h).gave_touched;
            completed_ready = λ k. ready k d h;
          };
        };
        districts = λ d h. district-stays w d _ _ _ _ (record_at b d) (s.districts d h) (λ k. refl) (λ k. seen d _);
        items = s.items;
        past_districts = s.past_districts;
        past_items = s.past_items;
        free_unused = s.free_unused;
      })
    where
      seen : (e m : ℕ) → Seen e (open_at b m) (open_at (decide w b n v) m)
      seen e = seen_at b (decide w b n v) q e (with_decision v o) (decide-opens v) (record { touched = refl; ready = refl; gave = refl })
