-- Demand 3.
use mathlib.Core.Path.{◌≡◌, refl, sym, ◌∙◌, ap}
use mathlib.Core.Bool.{Bool, true, false, false≢true}
use mathlib.Core.List.{List}
use Prim.Native.Nat.{ℕ, suc, ◌<◌}
use lib.IntN.{ℤ}
use lib.ListN.{length}
use borrow.Author.Tests.{eqb-true}
use Rattle.conditions.proofs.Laws.Below.{by_cases}
use Rattle.book.specs.declared.Book.{Book}
use Rattle.book.specs.declared.Opening.{Opening}
use Rattle.book.specs.Answers.{accepted}
use Rattle.book.specs.Book.{item_at, idle, item_on}
use Rattle.book.specs.Sound.{Sound}
use Rattle.book.specs.Open.{good_opening, opened}
use Rattle.book.proofs.Laws.Sound.{on_none}
use Rattle.book.proofs.Laws.Values.{held-complete, pending-complete}
use Rattle.book.proofs.Laws.But.{busy-on}
use Rattle.book.specs.Shaped.{Whole}
use Rattle.demands.specs.Calls.{Call, begins_with, readies, gives_up, completes, aborts, hears, shows, answer_to, number_given, book_after, History, nothing, ◌then◌, after_calls}
use Rattle.demands.specs.Past.{Said, asks_begin, began, Guess, serial, past_of}
use Rattle.demands.specs.Demands.{opening_of, district_of, Says, Right, Serially, Demand3}
use Rattle.demands.proofs.Tables.{begin-number}
use Rattle.demands.proofs.Leaving.{leaves}
use Rattle.demands.proofs.Assignments.{saying}
use Rattle.demands.proofs.Guesses.{cautious}
use Rattle.demands.proofs.Choosing.{chosen_at}
use Rattle.demands.proofs.Beginning.{chosen-idle}
use Rattle.demands.proofs.Invariant.{refused-book, Inv, call-inv}
use Rattle.demands.proofs.Opening.{opened-count, opened-district, opened-inv}

-- ---- the items are those that were opened

record Kept (b c : Book) : Type 0 where
  count : c.count ≡ b.count
  districts : (i : ℕ) → i < b.count → (item_at c i).district ≡ (item_at b i).district

call_kept : (w : ℕ) (b : Book) → Whole w b → (c : Call) → Kept b (book_after w b c)
call_kept w b v c =
    by_cases (accepted (answer_to w b c))
    (λ e. let l = leaves w c b v.shaped e in record { count = l.count; districts = l.belongs })
    (λ e. rw (refused-book w b c e) (record { count = refl; districts = λ i h. refl }))

-- ---- what the invariant says of one item

module _ (w : ℕ) (s₀ : ℕ → ℤ) (b : Book) (past : List Said) (v : Inv w s₀ b past) (g : ℕ → Bool) (legal : Guess past g) (a : ℕ) (says : Says w b g a) (i : ℕ) (h : i < b.count) where
  sound : Sound w b
  sound = v.whole.sound

  counts : chosen_at b g a i ≡ serial g s₀ past i
  counts = v.main g legal a says i h

  -- where its district is busy, it is on the district's transaction
  on : idle (district_of b i) ≡ false → item_on b (item_at b i) ≡ (district_of b i).transaction.0
  unfolding item_on
  on k = busy-on (district_of b i) k

  item-right : Right g (serial g s₀ past i) b a i
  item-right = record {
    one = (held-complete w b sound v.whole.shaped i h).once a says.assignment;
    in_idle = λ k. sym (chosen-idle w b sound g a i h (eqb-true (item_on b (item_at b i)) 0 (on_none w b sound i h ∙ k))).1 ∙ counts;
    one_pending = (pending-complete w b sound v.whole.shaped i h).once a says.assignment;
    completed = λ k z. rw (on k, z) at counts;
    aborted = λ k z. rw (on k, z) at counts;
  }

-- ---- "Numbers are given 1, 2, 3"

numbered : (w : ℕ) (s₀ : ℕ → ℤ) (b : Book) (past : List Said) → Inv w s₀ b past → (c : Call) → accepted (answer_to w b c) ≡ true → asks_begin c ≡ true → number_given w b c ≡ suc (began past)
numbered w s₀ b past v (begins_with bytes) e k = begin-number w b v.whole.shaped bytes e ∙ ap suc v.ledger.last
numbered w s₀ b past v (readies n d) e k = absurd (false≢true k)
numbered w s₀ b past v (gives_up n d) e k = absurd (false≢true k)
numbered w s₀ b past v (completes n) e k = absurd (false≢true k)
numbered w s₀ b past v (aborts n) e k = absurd (false≢true k)
numbered w s₀ b past v (hears n d) e k = absurd (false≢true k)
numbered w s₀ b past v (shows i buf) e k = absurd (false≢true k)

-- ---- histories

module _ (w districts : ℕ) (xs : List Opening) (good : good_opening districts xs ≡ true) where
  abbrev s₀ : ℕ → ℤ
  s₀ j = (opening_of xs j).value

  abbrev b₀ : Book
  b₀ = opened w districts xs

  history-inv : (h : History) → Inv w s₀ (after_calls w b₀ h) (past_of w b₀ h)
  history-inv nothing = opened-inv w districts xs good
  history-inv (h then c) = call-inv w s₀ (after_calls w b₀ h) (past_of w b₀ h) (history-inv h) c

  history-kept : (h : History) → Kept b₀ (after_calls w b₀ h)
  history-kept nothing = record { count = refl; districts = λ i h. refl }
  history-kept (h then c) =
      let before = history-kept h in
      let once = call_kept w (after_calls w b₀ h) (history-inv h).whole c in
      record {
        count = once.count ∙ before.count;
        districts = λ i l. let l' : i < (after_calls w b₀ h).count = rw before.count l in once.districts i l' ∙ before.districts i l;
      }

  history-count : (h : History) → (after_calls w b₀ h).count ≡ length xs
  history-count h = (history-kept h).count ∙ opened-count w districts xs good

  serially : (h : History) → Serially w xs (after_calls w b₀ h) (past_of w b₀ h)
  serially h = record {
    sound = (history-inv h).whole.sound;
    count = history-count h;
    districts = λ i l. (history-kept h).districts i (rw (opened-count w districts xs good) l) ∙ opened-district w districts xs good i l;
    right = λ g legal a says i l. item-right w s₀ (after_calls w b₀ h) (past_of w b₀ h) (history-inv h) g legal a says i (rw (history-count h) l);
    guess = cautious w (after_calls w b₀ h) (past_of w b₀ h) (history-inv h).ledger;
    says = λ g. let found = saying w (after_calls w b₀ h) g 0 in (found.0, found.1);
    numbers = numbered w s₀ (after_calls w b₀ h) (past_of w b₀ h) (history-inv h);
  }

pub demand-3 : (w : ℕ) → Demand3 w
demand-3 w districts xs good h = serially w districts xs good h
