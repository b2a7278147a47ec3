-- Demand 2, from the laws of the book: one for each event.
use mathlib.Core.Path.{◌≡◌, refl, sym, ◌∙◌}
use mathlib.Core.Bool.{true, false, not, ◌||◌, cond, or-false, or-true}
use Prim.Native.Nat.{ℕ, ◌<◌}
use lib.Dec.{eqb}
use borrow.Author.Tests.{eqb-true, eq-eqb, ne_eqb}
use Rattle.conditions.proofs.Laws.Below.{by_cases}
use Rattle.polyvalues.proofs.Laws.Canon.{unique}
use Rattle.polyvalues.proofs.Laws.Packed.{sound-well_formed}
use Rattle.book.specs.declared.Book.{Book}
use Rattle.book.specs.declared.Open.{Open}
use Rattle.book.specs.Answers.{accepted}
use Rattle.book.specs.Book.{record_at, item_at, open_at, is_open, place_of, some_depends, some_on, open_of}
use Rattle.book.specs.Records.{computing_on}
use Rattle.book.specs.Forget.{decided, needed, kept}
use Rattle.book.specs.Ready.{reported}
use Rattle.book.specs.GiveUp.{marked}
use Rattle.book.specs.Begin.{held_at}
use Rattle.book.specs.Show.{shown}
use Rattle.book.specs.Shaped.{Shaped}
use Rattle.book.proofs.Laws.But.{row-alike}
use Rattle.demands.proofs.Events.{values-stay, begin-values, ready-keeps, give_up-values, complete-keeps, abort-keeps, hear-values}
use Rattle.demands.specs.Calls.{Call, begins_with, readies, gives_up, completes, aborts, hears, shows, answer_to, book_after}
use Rattle.demands.specs.Demands.{pending_at, Values, row_with, is_decided, Demand2}
use Rattle.demands.proofs.Acts.{Acts, acts-number, acts-other}
use Rattle.demands.proofs.Tables.{ready-acts, give_up-acts, complete-acts, abort-acts, hear-acts, begin-number, begin-grant, begin-stays, ready-record, give_up-record, complete-record, abort-record, hear-record, begin-record}
use Rattle.demands.proofs.Leaving.{show-left, leaves}
use Rattle.demands.proofs.Settled.{settled}

-- an item that stays has the values it had
stays : (b c : Book) (i : ℕ) → item_at c i ≡ item_at b i → (a : ℕ) → Values c a i (held_at b a i) (pending_at b a i)
stays b c i e a = values-stay b c a i e (record { held = refl; pending = refl })

-- ---- forgetting

-- a row that a call changes keeps its decision
row-decided : (w : ℕ) (b : Book) (n : ℕ) (o : Open) (q : ℕ) → decided o ≡ decided (open_of w b n) → decided (row_with b (place_of w b n) o q) ≡ (decided (open_at b q) || false)
row-decided w b n o q e = row-alike decided b (place_of w b n) o e q ∙ sym (or-false _)

-- or the call decides it, and no other
row-decides : (w : ℕ) (b c : Book) (n : ℕ) (o : Open) → Acts w b c n o → decided o ≡ true → (q : ℕ) → q < w → is_open (open_at b q) ≡ true
    → decided (row_with b (place_of w b n) o q) ≡ (decided (open_at b q) || eqb n (open_at b q).number.0)
row-decides w b c n o act e q h k =
    by_cases (eqb q (place_of w b n))
    (λ z. rw (z, e, eqb-true q (place_of w b n) z, eq-eqb n (open_of w b n).number.0 (sym (acts-number w b c n o act))) (sym (or-true (decided (open_of w b n)))))
    (λ z. rw (z, ne_eqb n (open_at b q).number.0 (acts-other w b c n o act q h k z)) (sym (or-false _)))

forgets : (w : ℕ) (c : Call) (b : Book) → Shaped w b → accepted (answer_to w b c) ≡ true → (q : ℕ) → q < w → is_open (open_at b q) ≡ true
    → is_open (open_at (book_after w b c) q) ≡ (not (is_decided b c q) || (some_on (book_after w b c) (open_at b q).number.0 || some_depends w (book_after w b c) q))
unfolding kept needed
forgets w (begins_with bytes) b t e q h k = begin-stays w b t bytes e q h k ∙ rw (or-false (decided (open_at b q)))
forgets w (readies n d) b t e q h k = let act = ready-acts w b t n d e in act.stays q h k ∙ rw (row-decided w b n (reported d (open_of w b n)) q refl)
forgets w (gives_up n d) b t e q h k =
    let act = give_up-acts w b t n d e in
    act.stays q h k ∙ rw (row-decided w b n (cond (computing_on n (record_at b d)) (marked d (open_of w b n)) (open_of w b n)) q (by_cases (computing_on n (record_at b d)) (λ z. rw z) (λ z. rw z)))
forgets w (completes n) b t e q h k =
    let act = complete-acts w b t n e in act.stays q h k ∙ rw (row-decides w b _ n _ act refl q h k, or-false (eqb n (open_at b q).number.0))
forgets w (aborts n) b t e q h k = let act = abort-acts w b t n e in act.stays q h k ∙ rw (row-decides w b _ n _ act refl q h k)
forgets w (hears n d) b t e q h k = let act = hear-acts w b t n d e in act.stays q h k ∙ rw (row-decided w b n (open_of w b n) q refl)
forgets w (shows i buf) b t e q h k = (show-left w b t i buf e).stays q h k ∙ rw (or-false (decided (open_at b q)))

pub demand-2 : (w : ℕ) → Demand2 w
unfolding shown
demand-2 w = record {
  held = λ b s i h. sound-well_formed w (item_at b i).held (s.held i h);
  pending = λ b s i h. sound-well_formed w (item_at b i).pending (s.pending i h);
  unique = unique w;
  beginning = λ bytes b t e i h a l. begin-values w b t i h a l bytes e;
  beginning_records = λ bytes b t e d h. begin-record w b t bytes e d h;
  beginning_answer = λ bytes b t e. (begin-number w b t bytes e, begin-grant w b t bytes e);
  readiness = λ n d b t e i h a l. stays b _ i (ready-keeps w b n d e i) a;
  readiness_records = λ n d b t e x h. ready-record w b t n d e x;
  giving_up = λ n d b t e i h a l. give_up-values w b t i h a l n d e;
  giving_up_records = λ n d b t e x h. give_up-record w b t n d e x;
  completing = λ n b t e i h a l. stays b _ i (complete-keeps w b n e i) a;
  completing_records = λ n b t e x h. complete-record w b t n e x;
  aborting = λ n b t e i h a l. stays b _ i (abort-keeps w b n e i) a;
  aborting_records = λ n b t e x h. abort-record w b t n e x;
  hearing = λ n d b t e i h a l. hear-values w b t i h a l n d e;
  hearing_records = λ n d b t e x h. hear-record w b t n d e x;
  leaving = leaves w;
  settled = settled w;
  forgetting = forgets w;
  showing = λ b i buf e. rw e;
}
