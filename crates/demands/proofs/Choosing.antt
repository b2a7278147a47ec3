-- What counts of an item under a guess: its pending value if the transaction that it is on is guessed complete, else its held value. Every call but begin leaves it as it was.
use mathlib.Core.Path.{◌≡◌, sym, ◌∙◌, ap}
use mathlib.Core.Bool.{Bool, true, false, cond, true≢false}
use mathlib.Core.List.{List, ◌∷◌}
use Prim.Native.Nat.{ℕ, ◌<◌}
use native.Mathlib.Omega.{arith}
use lib.Dec.{eqb}
use lib.IntN.{ℤ}
use borrow.Author.Tests.{eqb-true, eqb-false, eq-eqb, not-true}
use Rattle.conditions.specs.Sets.{member}
use Rattle.conditions.proofs.Laws.Below.{by_cases}
use Rattle.conditions.proofs.Laws.Places.{place_same}
use Rattle.polyvalues.specs.Pairs.{at}
use Rattle.polyvalues.specs.Polyvalues.{in_use}
use Rattle.book.specs.declared.Book.{Book}
use Rattle.book.specs.declared.Item.{Item}
use Rattle.book.specs.Answers.{accepted}
use Rattle.book.specs.Book.{record_at, item_at, item_on, place_of, open_of}
use Rattle.book.specs.Records.{computing_on, busy_on}
use Rattle.book.specs.Items.{there}
use Rattle.book.specs.Begin.{held_at}
use Rattle.book.specs.Ready.{ready}
use Rattle.book.specs.GiveUp.{give_up}
use Rattle.book.specs.Hear.{outcome, hear}
use Rattle.book.proofs.Laws.Sound.{place-named}
use Rattle.book.specs.Shaped.{Shaped}
use Rattle.book.proofs.Laws.But.{place-open, computing-on, busy-is}
use Rattle.demands.proofs.Events.{ready-keeps, give_up-values, hear-values}
use Rattle.book.proofs.Laws.Calls.{GivesUp, Hears, give_up-tests, hear-tests}
use Rattle.demands.specs.Calls.{gives_up}
use Rattle.demands.specs.Past.{Said, said, asks_complete, was_completed, was_aborted, Guess}
use Rattle.demands.specs.Demands.{pending_at, given_up_at, set_at, Says}
use Rattle.demands.proofs.Tables.{give_up-acts}
use Rattle.demands.proofs.Items.{stays_on, ready_on, give_up-on, busy-item, hear-on}
use Rattle.demands.proofs.Ledger.{ever-now, Ledger, row-marks}
use Rattle.demands.proofs.Marking.{give_up-marked, hear-marks}

-- what counts
abbrev pub chosen_at : Book → (ℕ → Bool) → ℕ → ℕ → ℤ
chosen_at b g a i = cond (g (item_on b (item_at b i))) (pending_at b a i) (held_at b a i)

-- both values as they were, on the same transaction
chosen-same : (b c : Book) (g : ℕ → Bool) (a i : ℕ) → item_on c (item_at c i) ≡ item_on b (item_at b i) → held_at c a i ≡ held_at b a i → pending_at c a i ≡ pending_at b a i
    → chosen_at c g a i ≡ chosen_at b g a i
chosen-same b c g a i e f k = rw (e, f, k)

-- the item as it was, on the same transaction
chosen-kept : (b c : Book) (g : ℕ → Bool) (a i : ℕ) → item_on c (item_at c i) ≡ item_on b (item_at b i) → item_at c i ≡ item_at b i → chosen_at c g a i ≡ chosen_at b g a i
chosen-kept b c g a i e f = chosen-same b c g a i e (ap (λ (x : Item). at (in_use x.held) a) f) (ap (λ (x : Item). at (in_use x.pending) a) f)

-- the item as it was, where no record changed
pub chosen-stays : (b c : Book) (g : ℕ → Bool) (a i : ℕ) → item_at c i ≡ item_at b i → ((d : ℕ) → record_at c d ≡ record_at b d) → chosen_at c g a i ≡ chosen_at b g a i
chosen-stays b c g a i item records = chosen-kept b c g a i (stays_on b c i item records) item

-- one value, on any
pub chosen-one : (c : Book) (g : ℕ → Bool) (a i : ℕ) (v : ℤ) → held_at c a i ≡ v → pending_at c a i ≡ v → chosen_at c g a i ≡ v
chosen-one c g a i v f k = rw (f, k) (by_cases (g (item_on c (item_at c i))) (λ e. rw e) (λ e. rw e))

module _ (w : ℕ) (b : Book) (t : Shaped w b) (g : ℕ → Bool) (a : ℕ) (s : Says w b g a) (i : ℕ) (h : i < b.count) where
  abbrev x : Item
  x = item_at b i

  pub ready-chosen : (n d : ℕ) → accepted (ready w b n d).answer ≡ true → chosen_at (ready w b n d).book g a i ≡ chosen_at b g a i
  ready-chosen n d e = chosen-kept b _ g a i (ready_on w b t i h n d e) (ready-keeps w b n d e i)

  -- the place of an open transaction is as guessed
  guessed : (n : ℕ) → place_of w b n < w → member a (place_of w b n) ≡ g n
  guessed n p = s.places (place_of w b n) p (place-open w b n p) ∙ ap g (place-named w b n p).0

  module _ (past : List Said) (l : Ledger w b past) where
    -- ---- give up

    module _ (n d : ℕ) (e : accepted (give_up w b n d).answer ≡ true) (legal : Guess (said w b (gives_up n d) ∷ past) g) where
      facts : GivesUp w b n d
      facts = give_up-tests w b n d e

      -- a transaction on which a district computes is not completed
      not_completed : computing_on n (record_at b d) ≡ true → was_completed (said w b (gives_up n d) ∷ past) n ≡ true → ⊥
      not_completed k z =
          let o = open_of w b n in
          let marks = row-marks w b _ past l n _ (give_up-acts w b t n d e) in
          let its : open_of w b (record_at b d).transaction.0 ≡ o = ap (open_of w b) (busy-is n (record_at b d) facts.last).1 in
          let one : o.decision ≡ 1 = eqb-true o.decision 1 (sym marks.completed ∙ sym (ever-now past (said w b (gives_up n d)) (λ before. asks_complete n) e) ∙ z) in
          let touched : member o.touched d ≡ true = rw its at (facts.sound.busy_touched d facts.district (busy-is n (record_at b d) facts.last).0) in
          let ready = facts.sound.completed_ready (place_of w b n) facts.place (place-open w b n facts.place) one d facts.district touched in
          let not : member o.ready d ≡ false = rw its at (facts.sound.computing_not_ready d facts.district (computing-on n (record_at b d) k).0) in
          true≢false (sym ready ∙ not)

      -- and as a district gave up on it before it was ready, the guess aborts it
      aborts : computing_on n (record_at b d) ≡ true → g n ≡ false
      aborts k =
          by_cases (was_completed (said w b (gives_up n d) ∷ past) n)
          (λ z. absurd (not_completed k z))
          (λ c. by_cases (was_aborted (said w b (gives_up n d) ∷ past) n)
          (λ z. legal.aborted n z)
          (λ z. legal.given_up n c z (give_up-marked w b t past l n d e k)))

      -- what an item of the district becomes is what counted
      settled : there d x ≡ true
          → given_up_at w b n d a i ≡ chosen_at b g a i
      settled k = rw (busy-item w b t i h n d facts.last k) (by_cases (computing_on n (record_at b d))
          (λ z. rw (z, aborts z))
          (λ z. rw (z, guessed n facts.place)))

      pub give_up-chosen : chosen_at (give_up w b n d).book g a i ≡ chosen_at b g a i
      give_up-chosen =
          let v = give_up-values w b t i h a s.assignment n d e in
          by_cases (there d x)
          (λ k. chosen-one _ g a i _ (v.held ∙ rw k (settled k)) (v.pending ∙ rw k (settled k)))
          (λ k. chosen-same b _ g a i (give_up-on w b t i h n d e ∙ rw k) (v.held ∙ rw k) (v.pending ∙ rw k))

    -- ---- hear

    module _ (n d : ℕ) (e : accepted (hear w b n d).answer ≡ true) (legal : Guess past g) where
      hearing : Hears w b n d
      hearing = hear-tests w b n d e

      -- the guess keeps the decision
      kept : g n ≡ outcome (open_of w b n)
      kept =
          let o = open_of w b n in
          let marks = hear-marks w b t past l n d e in
          by_cases (eqb o.decision 1)
          (λ k. legal.completed n (marks.completed ∙ k) ∙ sym k)
          (λ k.
          let some : o.decision ≡ 0 → ⊥ = eqb-false o.decision 0 (not-true _ hearing.last) in
          let few = hearing.sound.decisions (place_of w b n) hearing.place (place-open w b n hearing.place) in
          let two : o.decision ≡ 2 = omega (arith, eqb-false o.decision 1 k, some, few) in
          legal.aborted n (marks.aborted ∙ eq-eqb o.decision 2 two) ∙ sym k)

      -- so the assignment is already as it is set
      set : set_at w b n a ≡ a
      set = place_same w a (place_of w b n) (outcome (open_of w b n)) s.assignment (λ k. guessed n hearing.place ∙ kept)

      installed : there d x ≡ true → busy_on n (record_at b d) ≡ true → cond (outcome (open_of w b n)) (pending_at b a i) (held_at b a i) ≡ chosen_at b g a i
      installed k on = rw (busy-item w b t i h n d on k, kept)

      pub hear-chosen : chosen_at (hear w b n d).book g a i ≡ chosen_at b g a i
      hear-chosen =
          let v = hear-values w b t i h a s.assignment n d e in
          by_cases (there d x)
          (λ k. by_cases (busy_on n (record_at b d))
          (λ z. chosen-one _ g a i _ (v.held ∙ rw (k, z, set) (installed k z)) (v.pending ∙ rw (k, z, set) (installed k z)))
          (λ z. chosen-same b _ g a i (hear-on w b t i h n d e ∙ rw (k, z)) (v.held ∙ rw (k, z, set)) (v.pending ∙ rw (k, z, set))))
          (λ k. chosen-same b _ g a i (hear-on w b t i h n d e ∙ rw k) (v.held ∙ rw k) (v.pending ∙ rw k))
