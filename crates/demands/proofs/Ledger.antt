-- What the book keeps of an open transaction, its ready set, its gave-up set and its decision, is what the calls and their answers say of its number.
use mathlib.Core.Path.{◌≡◌, refl, sym, ◌∙◌, ap, subst}
use mathlib.Core.Bool.{Bool, true, false, ◌&&◌, ◌||◌, and-false}
use mathlib.Core.List.{List, [], ◌∷◌}
use Prim.Native.Nat.{ℕ, ◌≤◌, ◌<◌}
use native.Mathlib.Omega.{arith}
use lib.Dec.{eqb}
use borrow.Author.Tests.{eqb-true, eqb-false}
use Rattle.conditions.specs.Sets.{member}
use Rattle.conditions.proofs.Laws.Below.{or-second, by_cases}
use Rattle.conditions.specs.declared.place.TransactionNumber.{TransactionNumber}
use Rattle.book.specs.declared.Book.{Book}
use Rattle.book.specs.declared.Open.{Open}
use Rattle.book.specs.Answers.{accepted}
use Rattle.book.specs.Book.{open_at, is_open, place_of, open_of}
use Rattle.book.proofs.Laws.But.{place-open}
use Rattle.demands.specs.Calls.{Call, begins_with, readies, gives_up, completes, aborts, hears, shows}
use Rattle.demands.specs.Past.{Said, asks_begin, asks_ready, asks_complete, asks_abort, ever, was_ready, was_completed, was_aborted, gives_up_early, was_given_up, began}
use Rattle.demands.proofs.Acts.{Acts, acts-number, acts-other}

-- ---- one call more

module _ (past : List Said) (x : Said) where
  -- a call that does not ask it, or was refused, adds nothing
  pub ever-not : (asks : List Said → Call → Bool) → (accepted x.answer && asks past x.call) ≡ false → ever asks (x ∷ past) ≡ ever asks past
  unfolding ever
  ever-not asks e = rw e

  -- an accepted one that asks it does
  pub ever-now : (asks : List Said → Call → Bool) → accepted x.answer ≡ true → ever asks (x ∷ past) ≡ (asks past x.call || ever asks past)
  unfolding ever
  ever-now asks e = rw e

  -- what has happened stays so
  pub ever-still : (asks : List Said → Call → Bool) → ever asks past ≡ true → ever asks (x ∷ past) ≡ true
  unfolding ever
  ever-still asks e = or-second (accepted x.answer && asks past x.call) (ever asks past) e

-- two pasts say the same of the number n
pub record Same (past now : List Said) (n : ℕ) : Type 0 where
  pub completed : was_completed now n ≡ was_completed past n
  pub aborted : was_aborted now n ≡ was_aborted past n
  pub ready : (d : ℕ) → was_ready now n d ≡ was_ready past n d
  pub gave : was_given_up now n ≡ was_given_up past n

pub same-still : (past now then : List Said) (n : ℕ) → Same past now n → Same now then n → Same past then n
same-still past now then n s t = record {
  completed = t.completed ∙ s.completed;
  aborted = t.aborted ∙ s.aborted;
  ready = λ d. t.ready d ∙ s.ready d;
  gave = t.gave ∙ s.gave;
}

-- a refused call says nothing of any number
pub refused-same : (past : List Said) (x : Said) → accepted x.answer ≡ false → (n : ℕ) → Same past (x ∷ past) n
refused-same past x e n = record {
  completed = ever-not past x (λ before. asks_complete n) (rw e);
  aborted = ever-not past x (λ before. asks_abort n) (rw e);
  ready = λ d. ever-not past x (λ before. asks_ready n d) (rw e);
  gave = ever-not past x (λ before. gives_up_early before n) (rw e);
}

-- the number that a call speaks of is n
abbrev pub speaks_of : ℕ → Call → Bool
speaks_of n (begins_with bytes) = false
speaks_of n (readies m d) = eqb m n
speaks_of n (gives_up m d) = eqb m n
speaks_of n (completes m) = eqb m n
speaks_of n (aborts m) = eqb m n
speaks_of n (hears m d) = false
speaks_of n (shows i buf) = false

record Silent (past : List Said) (n : ℕ) (c : Call) : Type 0 where
  completed : asks_complete n c ≡ false
  aborted : asks_abort n c ≡ false
  ready : (d : ℕ) → asks_ready n d c ≡ false
  gave : gives_up_early past n c ≡ false

silent : (past : List Said) (n : ℕ) (c : Call) → speaks_of n c ≡ false → Silent past n c
silent past n (begins_with bytes) e = record { completed = refl; aborted = refl; ready = λ d. refl; gave = refl }
silent past n (readies m d) e = record { completed = refl; aborted = refl; ready = λ f. rw e; gave = refl }
silent past n (gives_up m d) e = record { completed = refl; aborted = refl; ready = λ f. refl; gave = rw e }
silent past n (completes m) e = record { completed = e; aborted = refl; ready = λ d. refl; gave = refl }
silent past n (aborts m) e = record { completed = refl; aborted = e; ready = λ d. refl; gave = refl }
silent past n (hears m d) e = record { completed = refl; aborted = refl; ready = λ f. refl; gave = refl }
silent past n (shows i buf) e = record { completed = refl; aborted = refl; ready = λ d. refl; gave = refl }

pub silent-same : (past : List Said) (x : Said) (n : ℕ) → speaks_of n x.call ≡ false → Same past (x ∷ past) n
silent-same past x n e =
    let s = silent past n x.call e in
    let not-and : (y : Bool) → y ≡ false → (accepted x.answer && y) ≡ false = λ y k. rw k (and-false (accepted x.answer)) in
    record {
      completed = ever-not past x (λ before. asks_complete n) (not-and _ s.completed);
      aborted = ever-not past x (λ before. asks_abort n) (not-and _ s.aborted);
      ready = λ d. ever-not past x (λ before. asks_ready n d) (not-and _ (s.ready d));
      gave = ever-not past x (λ before. gives_up_early before n) (not-and _ s.gave);
    }

-- ---- marks

-- the row o of the open transaction number n says what the past does
pub record Marks (past : List Said) (districts n : ℕ) (o : Open) : Type 0 where
  pub completed : was_completed past n ≡ eqb o.decision 1
  pub aborted : was_aborted past n ≡ eqb o.decision 2
  pub ready : (d : ℕ) → d < districts → was_ready past n d ≡ member o.ready d
  pub gave : was_given_up past n ≡ true → (d : ℕ) × (d < districts) × (member o.gave d ≡ true)

pub same-marks : (past now : List Said) (districts n : ℕ) (o : Open) → Same past now n → Marks past districts n o → Marks now districts n o
same-marks past now districts n o s m = record {
  completed = s.completed ∙ m.completed;
  aborted = s.aborted ∙ m.aborted;
  ready = λ d h. s.ready d ∙ m.ready d h;
  gave = λ e. m.gave (sym s.gave ∙ e);
}

-- the accepted call x on the transaction number n turns its row r into o
pub record Turns (past : List Said) (x : Said) (districts n : ℕ) (r o : Open) : Type 0 where
  pub answered : accepted x.answer ≡ true
  pub completed : (asks_complete n x.call || eqb r.decision 1) ≡ eqb o.decision 1
  pub aborted : (asks_abort n x.call || eqb r.decision 2) ≡ eqb o.decision 2
  pub ready : (d : ℕ) → d < districts → (asks_ready n d x.call || member r.ready d) ≡ member o.ready d
  pub gives : gives_up_early past n x.call ≡ true → (d : ℕ) × (d < districts) × (member o.gave d ≡ true)
  pub gave : (d : ℕ) → d < districts → member r.gave d ≡ true → member o.gave d ≡ true

turned-marks : (past : List Said) (x : Said) (districts n : ℕ) (r o : Open) → Turns past x districts n r o → Marks past districts n r → Marks (x ∷ past) districts n o
turned-marks past x districts n r o t m = record {
  completed = ever-now past x (λ before. asks_complete n) t.answered ∙ rw m.completed t.completed;
  aborted = ever-now past x (λ before. asks_abort n) t.answered ∙ rw m.aborted t.aborted;
  ready = λ d h. ever-now past x (λ before. asks_ready n d) t.answered ∙ rw (m.ready d h) (t.ready d h);
  gave = λ e.
      by_cases (gives_up_early past n x.call)
      (λ k. t.gives k)
      (λ k.
      let before = m.gave (sym (ever-now past x (λ before. gives_up_early before n) t.answered ∙ rw k) ∙ e) in
      (before.0, before.1, t.gave before.0 before.1 before.2));
}

-- the book b and the past go together; nothing is said yet of a number that is not given
pub record Ledger (w : ℕ) (b : Book) (past : List Said) : Type 0 where
  pub marks : (q : ℕ) → q < w → is_open (open_at b q) ≡ true → Marks past b.districts (open_at b q).number.0 (open_at b q)
  pub fresh : (n : ℕ) → b.last.0 < n → Same [] past n
  pub once : (n : ℕ) → was_completed past n ≡ true → was_aborted past n ≡ false
  pub last : b.last.0 ≡ began past

-- a call that leaves the book, and says nothing
pub quiet-ledger : (w : ℕ) (b : Book) (past : List Said) (x : Said) → ((n : ℕ) → Same past (x ∷ past) n) → began (x ∷ past) ≡ began past → Ledger w b past → Ledger w b (x ∷ past)
quiet-ledger w b past x s count l = record {
  marks = λ q h k. same-marks past (x ∷ past) b.districts _ (open_at b q) (s _) (l.marks q h k);
  fresh = λ n h. same-still [] past (x ∷ past) n (l.fresh n h) (s n);
  once = λ n e. (s n).aborted ∙ l.once n (sym (s n).completed ∙ e);
  last = l.last ∙ sym count;
}

-- an accepted call on the transaction number n, which speaks of no other
module _ (w : ℕ) (b c : Book) (past : List Said) (l : Ledger w b past) (n : ℕ) (o : Open) (act : Acts w b c n o) where
  abbrev q : ℕ
  q = place_of w b n

  -- its row as it was
  pub row-marks : Marks past b.districts n (open_of w b n)
  row-marks = let m = l.marks q act.place (place-open w b n act.place) in rw (acts-number w b c n o act) at m

  given : n ≤ b.last.0
  given = omega (arith, acts-number w b c n o act, act.before.given q act.place (place-open w b n act.place))

  module _ (x : Said) (silence : (m : ℕ) → (n ≡ m → ⊥) → speaks_of m x.call ≡ false) (no_begin : asks_begin x.call ≡ false)
      (turns : Turns past x b.districts n (open_of w b n) o) where
    elsewhere : (m : ℕ) → (n ≡ m → ⊥) → Same past (x ∷ past) m
    elsewhere m apart = silent-same past x m (silence m apart)

    marks : Marks (x ∷ past) b.districts n o
    marks = turned-marks past x b.districts n (open_of w b n) o turns row-marks

    number : o.number.0 ≡ n
    number = ap (λ (m : TransactionNumber). m.0) act.number ∙ acts-number w b c n o act

    -- a row has one decision
    not_both : was_completed (x ∷ past) n ≡ true → was_aborted (x ∷ past) n ≡ false
    not_both e = marks.aborted ∙ ap (λ (v : ℕ). eqb v 2) (eqb-true o.decision 1 (sym marks.completed ∙ e))

    pub acts-ledger : Ledger w c (x ∷ past)
    unfolding began
    acts-ledger = record {
      marks = λ p h k.
          let row = act.opens p h k in
          by_cases (eqb p q)
          (λ e. rw (row, e, act.districts) (subst (λ m. Marks (x ∷ past) b.districts m o) (sym number) marks))
          (λ e.
          let stays : open_at c p ≡ open_at b p = row ∙ rw e in
          let k' : is_open (open_at b p) ≡ true = rw stays at k in
          rw (stays, act.districts) (same-marks past (x ∷ past) b.districts _ (open_at b p) (elsewhere _ (acts-other w b c n o act p h k' e)) (l.marks p h k')));
      fresh = λ m h. let h' : b.last.0 < m = rw act.last at h in same-still [] past (x ∷ past) m (l.fresh m h') (elsewhere m (λ e. omega (arith, given)));
      once = λ m e. by_cases (eqb n m)
          (λ t. let same : n ≡ m = eqb-true n m t in rw (← same) (not_both (rw (← same) at e)))
          (λ t. let s = elsewhere m (eqb-false n m t) in s.aborted ∙ l.once m (sym s.completed ∙ e));
      last = rw (act.last, no_begin, and-false (accepted x.answer)) l.last;
    }
