-- Each call keeps what the book says of its open transactions with what the calls and their answers say.
use mathlib.Core.Path.{◌≡◌, refl, sym, ◌∙◌, ap}
use mathlib.Core.Bool.{true, false, ◌&&◌, ◌||◌, cond, true≢false, false≢true, or_comm}
use mathlib.Core.List.{List, [], ◌∷◌}
use Prim.Native.Nat.{ℕ, suc, ◌<◌}
use native.Mathlib.Nat.{lt_of_lt_of_le}
use native.Mathlib.Omega.{arith}
use lib.Dec.{eqb}
use borrow.Author.Tests.{eq-eqb, ne_eqb, eqb-true, not-false}
use Rattle.conditions.specs.Sets.{member}
use Rattle.conditions.proofs.Laws.Below.{and_left, by_cases}
use Rattle.conditions.proofs.Laws.Sets.{member-none}
use Rattle.conditions.proofs.Laws.Places.{member-place, member-set}
use Rattle.book.specs.declared.Book.{Book}
use Rattle.book.specs.declared.Open.{Open}
use Rattle.book.specs.declared.Record.{Record}
use Rattle.book.specs.Answers.{accepted}
use Rattle.book.specs.Book.{most_districts, record_at, open_at, is_open, place_of, free_place, open_of}
use Rattle.book.specs.Programs.{steps}
use Rattle.book.specs.Records.{computing_on, waiting_on, busy_on}
use Rattle.book.specs.Forget.{decided}
use Rattle.book.specs.Begin.{begin}
use Rattle.book.specs.Ready.{reported, ready}
use Rattle.book.specs.GiveUp.{marked, give_up}
use Rattle.book.specs.Decide.{with_decision, complete, abort}
use Rattle.book.specs.Hear.{hear}
use Rattle.book.specs.Shaped.{Shaped}
use Rattle.book.proofs.Laws.Including.{including-either}
use Rattle.book.proofs.Laws.But.{place-open, computing-on, busy-is}
use Rattle.book.proofs.Laws.Calls.{GivesUp, ready-tests, give_up-tests, complete-tests, abort-tests}
use Rattle.demands.specs.Calls.{Call, begins_with, readies, gives_up, completes, aborts, hears, answer_to}
use Rattle.demands.specs.Past.{Said, said, asks_ready, asks_complete, asks_abort, ever, was_ready, gives_up_early, was_given_up, began}
use Rattle.demands.specs.Demands.{new_row}
use Rattle.demands.proofs.Tables.{ready-acts, give_up-acts, complete-acts, abort-acts, hear-acts, begin-last, begin-districts, begin-places}
use Rattle.demands.proofs.Ledger.{ever-now, silent-same, Same, Marks, Turns, same-still, same-marks, Ledger, row-marks, acts-ledger}

-- a record that is busy and not computing waits
waiting-on : (n : ℕ) (r : Record) → busy_on n r ≡ true → computing_on n r ≡ false → r.phase ≡ 2
unfolding busy_on waiting_on
waiting-on n r e k = let u : waiting_on n r ≡ true = rw k at e in eqb-true r.phase 2 (and_left (eqb r.phase 2) _ u)

undecided : (o : Open) → decided o ≡ false → o.decision ≡ 0
undecided o e = eqb-true o.decision 0 (not-false _ e)

module _ (w : ℕ) (b : Book) (t : Shaped w b) (past : List Said) (l : Ledger w b past) where
  -- the past after a call
  abbrev now : Call → List Said
  now c = said w b c ∷ past

  -- a call that says nothing of a district leaves the sets, and decides at most
  sets_stay : (c : Call) (n v : ℕ) → accepted (answer_to w b c) ≡ true → ((d : ℕ) → asks_ready n d c ≡ false) → gives_up_early past n c ≡ false
      → (asks_complete n c || eqb (open_of w b n).decision 1) ≡ eqb v 1 → (asks_abort n c || eqb (open_of w b n).decision 2) ≡ eqb v 2
      → Turns past (said w b c) b.districts n (open_of w b n) (with_decision v (open_of w b n))
  sets_stay c n v e silent late completed aborted = record {
    answered = e;
    completed = completed;
    aborted = aborted;
    ready = λ d h. rw (silent d);
    gives = λ k. absurd (false≢true (sym late ∙ k));
    gave = λ d h k. k;
  }

  -- ---- ready

  module _ (n d : ℕ) (e : accepted (ready w b n d).answer ≡ true) where
    ready_turns : Turns past (said w b (readies n d)) b.districts n (open_of w b n) (reported d (open_of w b n))
    ready_turns = record {
      answered = e;
      completed = refl;
      aborted = refl;
      ready = reports;
      gives = λ k. absurd (false≢true k);
      gave = λ f h k. k;
    }
      where
        reports : (f : ℕ) → f < b.districts → ((eqb n n && eqb d f) || member (open_of w b n).ready f) ≡ member (reported d (open_of w b n)).ready f
        reports f h =
            let few : f < most_districts = lt_of_lt_of_le h (ready-tests w b n d e).sound.few_districts in
            rw (including-either (open_of w b n).ready d f few, eq-eqb n n refl) (or_comm (eqb d f) _)

    pub ready-ledger : Ledger w (ready w b n d).book (now (readies n d))
    ready-ledger = acts-ledger w b _ past l n _ (ready-acts w b t n d e) (said w b (readies n d)) (λ m apart. ne_eqb n m apart) refl ready_turns

  -- ---- give up

  module _ (n d : ℕ) (e : accepted (give_up w b n d).answer ≡ true) where
    abbrev o : Open
    o = open_of w b n

    facts : GivesUp w b n d
    facts = give_up-tests w b n d e

    -- the district is on this transaction
    its_row : open_of w b (record_at b d).transaction.0 ≡ o
    its_row = ap (open_of w b) (busy-is n (record_at b d) facts.last).1

    was_ready_as : was_ready past n d ≡ member o.ready d
    was_ready_as = (row-marks w b _ past l n _ (give_up-acts w b t n d e)).ready d facts.district

    -- it gives up before it was ready exactly where it was computing
    early : gives_up_early past n (gives_up n d) ≡ computing_on n (record_at b d)
    early = rw (eq-eqb n n refl, was_ready_as) (by_cases (computing_on n (record_at b d))
        (λ k. rw (k, rw its_row at (facts.sound.computing_not_ready d facts.district (computing-on n (record_at b d) k).0)))
        (λ k. rw (k, rw its_row at (facts.sound.waiting_ready d facts.district (waiting-on n (record_at b d) facts.last k)))))

    pub give_up-marked : computing_on n (record_at b d) ≡ true → was_given_up (now (gives_up n d)) n ≡ true
    give_up-marked k = ever-now past (said w b (gives_up n d)) (λ before. gives_up_early before n) e ∙ rw (early, k)

    turns_early : Turns past (said w b (gives_up n d)) b.districts n o (marked d o)
    turns_early = record {
      answered = e;
      completed = refl;
      aborted = refl;
      ready = λ f h. refl;
      gives = λ z. (d, facts.district, member-set most_districts o.gave d true (lt_of_lt_of_le facts.district facts.sound.few_districts));
      gave = λ f h k. rw (member-place most_districts o.gave d true f (lt_of_lt_of_le h facts.sound.few_districts)) (by_cases (eqb f d) (λ z. rw z) (λ z. rw z k));
    }

    turns_late : computing_on n (record_at b d) ≡ false → Turns past (said w b (gives_up n d)) b.districts n o o
    turns_late z = sets_stay (gives_up n d) n o.decision e (λ f. refl) (early ∙ z) refl refl

    give_up_turns : Turns past (said w b (gives_up n d)) b.districts n o (cond (computing_on n (record_at b d)) (marked d o) o)
    give_up_turns = by_cases (computing_on n (record_at b d)) (λ k. rw k turns_early) (λ k. rw k (turns_late k))

    pub give_up-ledger : Ledger w (give_up w b n d).book (now (gives_up n d))
    give_up-ledger = acts-ledger w b _ past l n _ (give_up-acts w b t n d e) (said w b (gives_up n d)) (λ m apart. ne_eqb n m apart) refl give_up_turns

  -- ---- complete

  module _ (n : ℕ) (e : accepted (complete w b n).answer ≡ true) where
    complete_turns : Turns past (said w b (completes n)) b.districts n (open_of w b n) (with_decision 1 (open_of w b n))
    complete_turns =
        sets_stay (completes n) n 1 e (λ d. refl) refl (rw (eq-eqb n n refl))
        (ap (λ (v : ℕ). eqb v 2) (undecided (open_of w b n) (complete-tests w b n e).undecided))

    pub complete-ledger : Ledger w (complete w b n).book (now (completes n))
    complete-ledger = acts-ledger w b _ past l n _ (complete-acts w b t n e) (said w b (completes n)) (λ m apart. ne_eqb n m apart) refl complete_turns

    -- "complete asked, a touched district has not reported ready": so none gave up before it was
    pub complete-kept : was_given_up past n ≡ true → ⊥
    complete-kept k =
        let gave = (row-marks w b _ past l n _ (complete-acts w b t n e)).gave k in
        let q = place_of w b n in
        let f = complete-tests w b n e in
        let opened = place-open w b n f.place in
        let ready = f.ready refl gave.0 gave.1 (f.sound.gave_touched q f.place opened gave.0 gave.1 gave.2) in
        true≢false (sym gave.2 ∙ f.sound.apart q f.place opened gave.0 gave.1 ready)

  -- ---- abort

  module _ (n : ℕ) (e : accepted (abort w b n).answer ≡ true) where
    abort_turns : Turns past (said w b (aborts n)) b.districts n (open_of w b n) (with_decision 2 (open_of w b n))
    abort_turns =
        sets_stay (aborts n) n 2 e (λ d. refl) refl (ap (λ (v : ℕ). eqb v 1) (undecided (open_of w b n) (abort-tests w b n e).undecided)) (rw (eq-eqb n n refl))

    pub abort-ledger : Ledger w (abort w b n).book (now (aborts n))
    abort-ledger = acts-ledger w b _ past l n _ (abort-acts w b t n e) (said w b (aborts n)) (λ m apart. ne_eqb n m apart) refl abort_turns

  -- ---- hear

  module _ (n d : ℕ) (e : accepted (hear w b n d).answer ≡ true) where
    pub hear-marks : Marks past b.districts n (open_of w b n)
    hear-marks = row-marks w b _ past l n _ (hear-acts w b t n d e)

    pub hear-ledger : Ledger w (hear w b n d).book (now (hears n d))
    hear-ledger =
        acts-ledger w b _ past l n _ (hear-acts w b t n d e) (said w b (hears n d)) (λ m apart. refl) refl
        (sets_stay (hears n d) n (open_of w b n).decision e (λ f. refl) refl refl refl)

  -- ---- begin: the number is new, and nothing is said of it

  module _ (bytes : List ℕ) (e : accepted (begin w b bytes).answer ≡ true) where
    abbrev c : Book
    c = (begin w b bytes).book

    quiet : (n : ℕ) → Same past (now (begins_with bytes)) n
    quiet n = silent-same past (said w b (begins_with bytes)) n refl

    new_marks : Marks (now (begins_with bytes)) b.districts (suc b.last.0) (new_row b (steps bytes))
    unfolding ever
    new_marks =
        let n = suc b.last.0 in
        let u = same-still [] past (now (begins_with bytes)) n (l.fresh n (omega arith)) (quiet n) in
        record { completed = u.completed; aborted = u.aborted; ready = λ d h. u.ready d ∙ sym (member-none d); gave = λ k. absurd (true≢false (sym k ∙ u.gave)) }

    pub begin-ledger : Ledger w (begin w b bytes).book (now (begins_with bytes))
    unfolding began
    begin-ledger = record {
      marks = λ q h k.
          let row = begin-places w b t bytes e q h k in
          by_cases (eqb q (free_place w b))
          (λ z. rw (row, z, begin-districts w b t bytes e) new_marks)
          (λ z.
          let stays : open_at c q ≡ open_at b q = row ∙ rw z in
          let k' : is_open (open_at b q) ≡ true = rw stays at k in
          rw (stays, begin-districts w b t bytes e) (same-marks past (now (begins_with bytes)) b.districts _ (open_at b q) (quiet _) (l.marks q h k')));
      fresh = λ n h. same-still [] past (now (begins_with bytes)) n (l.fresh n (omega (arith, begin-last w b t bytes e))) (quiet n);
      once = λ n k. (quiet n).aborted ∙ l.once n (sym (quiet n).completed ∙ k);
      last = begin-last w b t bytes e ∙ rw e (ap suc l.last);
    }
