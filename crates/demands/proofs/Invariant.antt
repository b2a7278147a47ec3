-- The invariant of histories: under every guess that keeps to the past, what counts of each item is its value after the serial run. Every call keeps it.
use mathlib.Core.Path.{◌≡◌, refl, sym, ◌∙◌, ap}
use mathlib.Core.Bool.{Bool, true, false, cond, and-false, true≢false}
use mathlib.Core.List.{List, ◌∷◌}
use Prim.Native.Nat.{ℕ, suc, ◌<◌}
use lib.Dec.{eqb}
use lib.IntN.{ℤ}
use borrow.Author.Tests.{eqb-true}
use Rattle.conditions.proofs.Laws.Below.{by_cases}
use Rattle.book.specs.declared.Book.{Book}
use Rattle.book.specs.declared.Open.{Open}
use Rattle.book.specs.Answers.{accepted}
use Rattle.book.specs.Book.{open_at, is_open, place_of, free_place}
use Rattle.book.specs.Transactions.{done}
use Rattle.book.specs.Programs.{steps}
use Rattle.book.specs.Begin.{begin_answer, begun, begin}
use Rattle.book.specs.Ready.{ready_answer, readied, ready}
use Rattle.book.specs.GiveUp.{give_up_answer, gave_up, give_up}
use Rattle.book.specs.Decide.{complete_answer, abort_answer, decide, complete, abort}
use Rattle.book.specs.Hear.{hear_answer, heard, hear}
use Rattle.book.specs.Shaped.{Shaped, Whole}
use Rattle.book.proofs.Laws.But.{row-alike}
use Rattle.book.proofs.Laws.BeginSound.{free-place}
use Rattle.demands.proofs.Events.{complete-keeps, abort-keeps}
use Rattle.book.proofs.Laws.Calls.{done_refused, begin-tests}
use Rattle.demands.specs.Calls.{Call, begins_with, readies, gives_up, completes, aborts, hears, shows, answer_to, book_after}
use Rattle.demands.specs.Past.{Said, said, asks_begin, asks_complete, was_completed, was_given_up, began, Guess, runs, serial}
use Rattle.demands.specs.Demands.{Says}
use Rattle.demands.proofs.Acts.{Acts}
use Rattle.demands.proofs.Tables.{ready-acts, give_up-acts, complete-acts, complete-record, abort-acts, abort-record, hear-acts, begin-after, begin-number, begin-count, begin-places}
use Rattle.demands.proofs.Assignments.{held-agree, pending-agree, saying-both}
use Rattle.demands.proofs.Ledger.{ever-not, Same, refused-same, silent-same, Ledger, quiet-ledger}
use Rattle.demands.proofs.Marking.{ready-ledger, give_up-ledger, complete-ledger, complete-kept, abort-ledger, hear-ledger, begin-ledger}
use Rattle.demands.proofs.Guesses.{guess-before}
use Rattle.demands.proofs.Choosing.{chosen_at, chosen-stays, ready-chosen, give_up-chosen, hear-chosen}
use Rattle.demands.proofs.Beginning.{begin-chosen}

-- ---- "A refused call leaves the book .. as [it was] before it."

pub refused-book : (w : ℕ) (b : Book) (c : Call) → accepted (answer_to w b c) ≡ false → book_after w b c ≡ b
unfolding begin ready give_up complete abort hear done
refused-book w b (begins_with bytes) e = done_refused w (begin_answer w b bytes) (begun w b (steps bytes)) b e
refused-book w b (readies n d) e = done_refused w (ready_answer w b n d) (readied w b n d) b e
refused-book w b (gives_up n d) e = done_refused w (give_up_answer w b n d) (gave_up w b n d) b e
refused-book w b (completes n) e = done_refused w (complete_answer w b n) (decide w b n 1) b e
refused-book w b (aborts n) e = done_refused w (abort_answer w b n) (decide w b n 2) b e
refused-book w b (hears n d) e = done_refused w (hear_answer w b n d) (heard w b n d) b e
refused-book w b (shows i buf) e = refl

-- ---- the serial run over one call more

runs_other : (g : ℕ → Bool) (n : ℕ) (c : Call) (s : ℕ → ℤ) → asks_begin c ≡ false → runs g n c s ≡ s
runs_other g n (begins_with bytes) s e = absurd (true≢false e)
runs_other g n (readies m d) s e = refl
runs_other g n (gives_up m d) s e = refl
runs_other g n (completes m) s e = refl
runs_other g n (aborts m) s e = refl
runs_other g n (hears m d) s e = refl
runs_other g n (shows i buf) s e = refl

-- a call that begins nothing runs nothing
serial-other : (g : ℕ → Bool) (s : ℕ → ℤ) (past : List Said) (x : Said) → asks_begin x.call ≡ false → serial g s (x ∷ past) ≡ serial g s past
unfolding serial
serial-other g s past x e = by_cases (accepted x.answer) (λ k. rw k (runs_other g x.number x.call (serial g s past) e)) (λ k. rw k)

serial-refused : (g : ℕ → Bool) (s : ℕ → ℤ) (past : List Said) (x : Said) → accepted x.answer ≡ false → serial g s (x ∷ past) ≡ serial g s past
unfolding serial
serial-refused g s past x e = rw e

module _ (w : ℕ) (s₀ : ℕ → ℤ) where
  -- under every guess, what counts is the serial run's
  abbrev pub Main : Book → List Said → Type 0
  Main b past = (g : ℕ → Bool) → Guess past g → (a : ℕ) → Says w b g a → (i : ℕ) → i < b.count → chosen_at b g a i ≡ serial g s₀ past i

  pub record Inv (b : Book) (past : List Said) : Type 0 where
    pub whole : Whole w b
    pub ledger : Ledger w b past
    pub main : Main b past

-- ---- a call that leaves the book and says nothing

quiet-inv : (w : ℕ) (s₀ : ℕ → ℤ) (b : Book) (past : List Said) (x : Said) → ((n : ℕ) → Same past (x ∷ past) n) → began (x ∷ past) ≡ began past
    → ((g : ℕ → Bool) → serial g s₀ (x ∷ past) ≡ serial g s₀ past) → Inv w s₀ b past → Inv w s₀ b (x ∷ past)
quiet-inv w s₀ b past x same count runs v = record {
  whole = v.whole;
  ledger = quiet-ledger w b past x same count v.ledger;
  main = λ g legal a says i h. v.main g (guess-before past x g legal (λ n k c. (same n).completed ∙ c)) a says i h ∙ ap (λ (f : ℕ → ℤ). f i) (sym (runs g));
}

-- ---- an accepted call

module _ (w : ℕ) (s₀ : ℕ → ℤ) (b : Book) (past : List Said) (v : Inv w s₀ b past) where
  -- what counts afterwards, under an assignment that says the same of both books
  main-after : (c : Book) (now : List Said) → Whole w c → c.count ≡ b.count
      → ((q : ℕ) → q < w → is_open (open_at c q) ≡ true → is_open (open_at b q) ≡ true → (open_at c q).number ≡ (open_at b q).number)
      → ((g : ℕ → Bool) → Guess now g → (a : ℕ) → Says w b g a → (i : ℕ) → i < b.count → chosen_at c g a i ≡ serial g s₀ now i)
      → Main w s₀ c now
  main-after c now whole count same after g legal other says i h =
      let found = saying-both w b c g same other says in
      let a = found.0 in
      let h' : i < b.count = rw count at h in
      rw (held-agree w c whole.sound g other a says found.2 i h, pending-agree w c whole.sound g other a says found.2 i h)
      (after g legal a found.1 i h')

  -- a call on an open transaction
  acts-inv : (c : Book) (n : ℕ) (o : Open) (x : Said) → Acts w b c n o → asks_begin x.call ≡ false → Ledger w c (x ∷ past)
      → ((m : ℕ) → was_given_up past m ≡ true → was_completed past m ≡ false → was_completed (x ∷ past) m ≡ false)
      → ((g : ℕ → Bool) → Guess past g → Guess (x ∷ past) g → (a : ℕ) → Says w b g a → (i : ℕ) → i < b.count → chosen_at c g a i ≡ chosen_at b g a i)
      → Inv w s₀ c (x ∷ past)
  acts-inv c n o x act none ledger late keeps = record {
    whole = act.after;
    ledger = ledger;
    main = main-after c (x ∷ past) act.after act.count (λ q h k z. rw (act.opens q h k) (row-alike (λ (r : Open). r.number) b (place_of w b n) o act.number q)) (λ g legal a says i h.
        let before = guess-before past x g legal late in
        keeps g before legal a says i h ∙ v.main g before a says i h ∙ ap (λ (f : ℕ → ℤ). f i) (sym (serial-other g s₀ past x none)));
  }

  -- a call that does not complete completes nothing
  not_late : (x : Said) → ((m : ℕ) → asks_complete m x.call ≡ false) → (m : ℕ) → was_given_up past m ≡ true → was_completed past m ≡ false → was_completed (x ∷ past) m ≡ false
  not_late x e m k c = ever-not past x (λ before. asks_complete m) (rw (e m) (and-false (accepted x.answer))) ∙ c

  begins-inv : (bytes : List ℕ) → accepted (begin w b bytes).answer ≡ true → Inv w s₀ (begin w b bytes).book (said w b (begins_with bytes) ∷ past)
  unfolding serial
  begins-inv bytes e = record {
    whole = begin-after w b t bytes e;
    ledger = begin-ledger w b t past v.ledger bytes e;
    main = main-after (begin w b bytes).book now (begin-after w b t bytes e) (begin-count w b t bytes e) numbers (λ g legal a says i h.
        let before = guess-before past (said w b (begins_with bytes)) g legal (not_late (said w b (begins_with bytes)) (λ m. refl)) in
        begin-chosen w b t g a says bytes e (serial g s₀ past) (v.main g before a says) i h ∙ rw (e, begin-number w b t bytes e));
  }
    where
      t : Shaped w b
      t = v.whole.shaped

      now : List Said
      now = said w b (begins_with bytes) ∷ past

      numbers : (q : ℕ) → q < w → is_open (open_at (begin w b bytes).book q) ≡ true → is_open (open_at b q) ≡ true → (open_at (begin w b bytes).book q).number ≡ (open_at b q).number
      numbers q h k z =
          by_cases (eqb q (free_place w b))
          (λ y. absurd (true≢false (sym z ∙ rw (eqb-true q (free_place w b) y) (free-place w b (begin-tests w b bytes e).0 t _ (begin-tests w b bytes e).1))))
          (λ y. rw (begin-places w b t bytes e q h k, y))

  -- every accepted call
  accepted-inv : (c : Call) → accepted (answer_to w b c) ≡ true → Inv w s₀ (book_after w b c) (said w b c ∷ past)
  unfolding began
  accepted-inv (begins_with bytes) e = begins-inv bytes e
  accepted-inv (readies n d) e =
      let t = v.whole.shaped in
      acts-inv _ n _ (said w b (readies n d)) (ready-acts w b t n d e) refl (ready-ledger w b t past v.ledger n d e) (not_late (said w b (readies n d)) (λ m. refl))
      (λ g before legal a says i h. ready-chosen w b t g a says i h n d e)
  accepted-inv (gives_up n d) e =
      let t = v.whole.shaped in
      acts-inv _ n _ (said w b (gives_up n d)) (give_up-acts w b t n d e) refl (give_up-ledger w b t past v.ledger n d e) (not_late (said w b (gives_up n d)) (λ m. refl))
      (λ g before legal a says i h. give_up-chosen w b t g a says i h past v.ledger n d e legal)
  accepted-inv (completes n) e =
      let t = v.whole.shaped in
      acts-inv _ n _ (said w b (completes n)) (complete-acts w b t n e) refl (complete-ledger w b t past v.ledger n e)
      (λ m k c. by_cases (eqb n m)
      (λ z. absurd (complete-kept w b t past v.ledger n e (ap (was_given_up past) (eqb-true n m z) ∙ k)))
      (λ z. ever-not past (said w b (completes n)) (λ before. asks_complete m) (rw z (and-false (accepted (answer_to w b (completes n))))) ∙ c))
      (λ g before legal a says i h. chosen-stays b _ g a i (complete-keeps w b n e i) (complete-record w b t n e))
  accepted-inv (aborts n) e =
      let t = v.whole.shaped in
      acts-inv _ n _ (said w b (aborts n)) (abort-acts w b t n e) refl (abort-ledger w b t past v.ledger n e) (not_late (said w b (aborts n)) (λ m. refl))
      (λ g before legal a says i h. chosen-stays b _ g a i (abort-keeps w b n e i) (abort-record w b t n e))
  accepted-inv (hears n d) e =
      let t = v.whole.shaped in
      acts-inv _ n _ (said w b (hears n d)) (hear-acts w b t n d e) refl (hear-ledger w b t past v.ledger n d e) (not_late (said w b (hears n d)) (λ m. refl))
      (λ g before legal a says i h. hear-chosen w b t g a says i h past v.ledger n d e before)
  accepted-inv (shows i buf) e =
      quiet-inv w s₀ b past (said w b (shows i buf)) (λ n. silent-same past (said w b (shows i buf)) n refl)
      (ap (λ (y : Bool). cond y (suc (began past)) (began past)) (and-false (accepted (answer_to w b (shows i buf)))))
      (λ g. serial-other g s₀ past (said w b (shows i buf)) refl) v

  -- every call
  pub call-inv : (c : Call) → Inv w s₀ (book_after w b c) (said w b c ∷ past)
  unfolding began
  call-inv c =
      by_cases (accepted (answer_to w b c))
      (λ e. accepted-inv c e)
      (λ e. rw (refused-book w b c e)
      (quiet-inv w s₀ b past (said w b c) (refused-same past (said w b c) e) (rw e) (λ g. serial-refused g s₀ past (said w b c) e) v))
