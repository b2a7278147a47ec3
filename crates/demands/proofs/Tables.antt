-- For each call, what an accepted one makes of the districts' records and of the places.
use mathlib.Core.Path.{◌≡◌, refl, sym, ◌∙◌, ap}
use mathlib.Core.Bool.{true, cond, true≢false}
use mathlib.Core.List.{List}
use Prim.Native.Nat.{ℕ, suc, ◌<◌}
use lib.Dec.{eqb}
use borrow.Author.Tests.{eqb-true}
use Rattle.conditions.proofs.Laws.Below.{by_cases}
use Rattle.book.specs.declared.Book.{Book}
use Rattle.conditions.specs.declared.place.TransactionNumber.{TransactionNumber}
use Rattle.book.specs.Answers.{Answer, accepted}
use Rattle.book.specs.Book.{no_record, record_at, open_at, is_open, place_of, free_place, open_of}
use Rattle.book.specs.Programs.{steps}
use Rattle.book.specs.Records.{computing_on, begin_record, ready_record, hear_record}
use Rattle.book.specs.Forget.{kept, remembered}
use Rattle.book.specs.Transactions.{done}
use Rattle.book.specs.Sound.{Sound}
use Rattle.book.specs.Begin.{grant, begin_answer, touches_district, begun, begin}
use Rattle.book.specs.Ready.{ready_answer, reported, readied, ready}
use Rattle.book.specs.GiveUp.{give_up_answer, marked, gave_up, give_up}
use Rattle.book.specs.Decide.{complete_answer, abort_answer, with_decision, decide, complete, abort}
use Rattle.book.specs.Hear.{hear_answer, heard, hear}
use Rattle.book.specs.Shaped.{Shaped, Whole}
use Rattle.book.proofs.Laws.But.{sound-but, row-own}
use Rattle.book.proofs.Laws.ReadySound.{ready-records, ready-opens}
use Rattle.book.proofs.Laws.GiveUpSound.{give_up-records, give_up-opens}
use Rattle.book.proofs.Laws.DecideSound.{decide-opens}
use Rattle.book.proofs.Laws.HearSound.{hear-records}
use Rattle.book.proofs.Laws.BeginSound.{Begins, begin-records, begin-opens, free-place}
use Rattle.book.proofs.Laws.Calls.{Decides, ready-tests, give_up-tests, complete-tests, abort-tests, hear-tests, begin-tests, ready-leaves, give_up-leaves, decide-leaves, hear-leaves, begin-leaves}
use Rattle.demands.specs.Calls.{begins_with}
use Rattle.demands.specs.Demands.{open_after}
use Rattle.demands.proofs.Acts.{Left, done-left, Acts, acts}

module _ (w : ℕ) (b : Book) (t : Shaped w b) where
  -- ---- ready

  module _ (n d : ℕ) (e : accepted (ready w b n d).answer ≡ true) where
    ready_left : Left w (readied w b n d) (ready w b n d).book
    unfolding ready done
    ready_left = done-left w (ready_answer w b n d) (readied w b n d) b e (ready-leaves w b n d t (ready-tests w b n d e))

    pub ready-acts : Acts w b (ready w b n d).book n (reported d (open_of w b n))
    unfolding readied
    ready-acts =
        let f = ready-tests w b n d e in
        acts w b (readied w b n d) _ n _ f.sound f.place refl ready_left refl refl refl
        (ready-opens w b (sound-but w b f.sound) t n d f.place f.district f.last)

    pub ready-record : (x : ℕ) → record_at (ready w b n d).book x ≡ cond (eqb x d) (ready_record (record_at b x)) (record_at b x)
    ready-record x = let f = ready-tests w b n d e in
        ready_left.records x ∙ ready-records w b (sound-but w b f.sound) t n d f.place f.district f.last x
        ∙ by_cases (eqb x d) (λ k. rw (k, eqb-true x d k)) (λ k. rw k)

  -- ---- give up

  module _ (n d : ℕ) (e : accepted (give_up w b n d).answer ≡ true) where
    give_up_left : Left w (gave_up w b n d) (give_up w b n d).book
    unfolding give_up done
    give_up_left = done-left w (give_up_answer w b n d) (gave_up w b n d) b e (give_up-leaves w b n d t (give_up-tests w b n d e))

    pub give_up-acts : Acts w b (give_up w b n d).book n (cond (computing_on n (record_at b d)) (marked d (open_of w b n)) (open_of w b n))
    unfolding gave_up
    give_up-acts =
        let f = give_up-tests w b n d e in
        acts w b (gave_up w b n d) _ n _ f.sound f.place (by_cases (computing_on n (record_at b d)) (λ k. rw k) (λ k. rw k)) give_up_left refl refl refl
        (give_up-opens w b f.sound t n d f.place f.district f.last)

    pub give_up-record : (x : ℕ) → record_at (give_up w b n d).book x ≡ cond (eqb x d) no_record (record_at b x)
    give_up-record x = let f = give_up-tests w b n d e in give_up_left.records x ∙ give_up-records w b f.sound t n d f.place f.district f.last x

  -- ---- complete and abort

  module _ (n v : ℕ) (a : Answer) (e : accepted a ≡ true) (f : Decides w b n v) where
    decide_left : Left w (decide w b n v) (done w a (decide w b n v) b).book
    decide_left = done-left w a (decide w b n v) b e (decide-leaves w b n v t f)

    decide-acts : Acts w b (done w a (decide w b n v) b).book n (with_decision v (open_of w b n))
    unfolding decide
    decide-acts =
        acts w b (decide w b n v) _ n _ f.sound f.place refl decide_left refl refl refl
        (decide-opens w b (sound-but w b f.sound) t n f.place v)

    decide-record : (x : ℕ) → record_at (done w a (decide w b n v) b).book x ≡ record_at b x
    unfolding decide
    decide-record x = decide_left.records x

  module _ (n : ℕ) (e : accepted (complete w b n).answer ≡ true) where
    pub complete-acts : Acts w b (complete w b n).book n (with_decision 1 (open_of w b n))
    unfolding complete done
    complete-acts = decide-acts n 1 (complete_answer w b n) e (complete-tests w b n e)

    pub complete-record : (x : ℕ) → record_at (complete w b n).book x ≡ record_at b x
    unfolding complete done
    complete-record = decide-record n 1 (complete_answer w b n) e (complete-tests w b n e)

  module _ (n : ℕ) (e : accepted (abort w b n).answer ≡ true) where
    pub abort-acts : Acts w b (abort w b n).book n (with_decision 2 (open_of w b n))
    unfolding abort done
    abort-acts = decide-acts n 2 (abort_answer w b n) e (abort-tests w b n e)

    pub abort-record : (x : ℕ) → record_at (abort w b n).book x ≡ record_at b x
    unfolding abort done
    abort-record = decide-record n 2 (abort_answer w b n) e (abort-tests w b n e)

  -- ---- hear

  module _ (n d : ℕ) (e : accepted (hear w b n d).answer ≡ true) where
    hear_left : Left w (heard w b n d) (hear w b n d).book
    unfolding hear done
    hear_left = done-left w (hear_answer w b n d) (heard w b n d) b e (hear-leaves w b n d t (hear-tests w b n d e))

    pub hear-acts : Acts w b (hear w b n d).book n (open_of w b n)
    unfolding heard
    hear-acts =
        let f = hear-tests w b n d e in
        acts w b (heard w b n d) _ n _ f.sound f.place refl hear_left refl refl refl (row-own b (place_of w b n))

    pub hear-record : (x : ℕ) → record_at (hear w b n d).book x ≡ cond (eqb x d) (hear_record n (record_at b x)) (record_at b x)
    hear-record x = let f = hear-tests w b n d e in
        hear_left.records x ∙ hear-records w b f.sound t n d f.place f.district x
        ∙ by_cases (eqb x d) (λ k. rw (k, eqb-true x d k)) (λ k. rw k)

  -- ---- begin

  module _ (bytes : List ℕ) (e : accepted (begin w b bytes).answer ≡ true) where
    facts : (Sound w b) × (Begins w b (steps bytes))
    facts = begin-tests w b bytes e

    begin_left : Left w (begun w b (steps bytes)) (begin w b bytes).book
    unfolding begin done
    begin_left = done-left w (begin_answer w b bytes) (begun w b (steps bytes)) b e (begin-leaves w b (steps bytes) t facts)

    pub begin-after : Whole w (begin w b bytes).book
    begin-after = begin_left.whole

    pub begin-last : (begin w b bytes).book.last.0 ≡ suc b.last.0
    unfolding begun
    begin-last = ap (λ (x : TransactionNumber). x.0) begin_left.last

    pub begin-number : (begin w b bytes).number.0 ≡ suc b.last.0
    unfolding begin
    begin-number = rw e

    pub begin-grant : (begin w b bytes).grant ≡ grant w b (steps bytes)
    unfolding begin
    begin-grant = rw e

    pub begin-districts : (begin w b bytes).book.districts ≡ b.districts
    unfolding begun
    begin-districts = begin_left.districts

    pub begin-count : (begin w b bytes).book.count ≡ b.count
    unfolding begun
    begin-count = begin_left.count

    pub begin-record : (d : ℕ) → d < b.districts
        → record_at (begin w b bytes).book d ≡ cond (touches_district b (steps bytes) d) (begin_record (suc b.last.0)) (record_at b d)
    begin-record d h = begin_left.records d ∙ begin-records w b facts.0 t (steps bytes) facts.1 d h

    pub begin-places : (q : ℕ) → q < w → is_open (open_at (begin w b bytes).book q) ≡ true
        → open_at (begin w b bytes).book q ≡ open_after w b (begins_with bytes) q
    begin-places q h k = begin_left.opens q h k ∙ begin-opens w b facts.0 t (steps bytes) facts.1 q

    pub begin-rows : (q : ℕ) → q < w → open_at (begin w b bytes).book q ≡ remembered w (begin w b bytes).book q (open_after w b (begins_with bytes) q)
    begin-rows q h = begin_left.rows q h ∙ ap (remembered w (begin w b bytes).book q) (begin-opens w b facts.0 t (steps bytes) facts.1 q)

    -- no transaction that was open is forgotten but as it must be
    pub begin-stays : (q : ℕ) → q < w → is_open (open_at b q) ≡ true
        → is_open (open_at (begin w b bytes).book q) ≡ kept w (begin w b bytes).book q (open_at b q)
    begin-stays q h k =
        let f = facts in
        let same : open_at (begun w b (steps bytes)) q ≡ open_at b q = begin-opens w b f.0 t (steps bytes) f.1 q
        ∙ by_cases (eqb q (free_place w b))
        (λ z. absurd (true≢false (sym k ∙ rw (eqb-true q (free_place w b) z) (free-place w b f.0 t (steps bytes) f.1))))
        (λ z. rw z) in
        rw same at (begin_left.stays q h (rw same k))
