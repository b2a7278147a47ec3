-- For each event, what an accepted call makes of every item's held and pending value, under every assignment.
use mathlib.Core.Path.{◌≡◌, ◌∙◌, ap}
use mathlib.Core.Bool.{true, cond, and-true}
use mathlib.Core.List.{List}
use Prim.Native.Nat.{ℕ, ◌^◌, ◌<◌}
use lib.IntN.{ℤ}
use Rattle.conditions.proofs.Laws.Below.{by_cases}
use Rattle.polyvalues.specs.declared.polyvalue.Polyvalue.{Polyvalue}
use Rattle.book.specs.declared.Item.{Item}
use Rattle.book.specs.declared.Book.{Book}
use Rattle.book.specs.Answers.{Answer, accepted}
use Rattle.book.specs.Book.{record_at, item_at}
use Rattle.book.specs.Programs.{steps, run, touches}
use Rattle.book.specs.Records.{busy_on}
use Rattle.book.specs.Items.{there, concerned}
use Rattle.book.specs.Transactions.{done}
use Rattle.book.specs.Begin.{held_at, begin_answer, begun, begin}
use Rattle.book.specs.Ready.{ready_answer, readied, ready}
use Rattle.book.specs.GiveUp.{give_up_answer, gave_up, give_up}
use Rattle.book.specs.Decide.{complete_answer, abort_answer, decide, complete, abort}
use Rattle.book.specs.Hear.{hear_answer, heard, hear}
use Rattle.book.specs.Shaped.{Shaped}
use Rattle.book.proofs.Laws.Values.{value_under, forget-item, begin-held, begin-pending, give_up-held, give_up-pending, hear-held, hear-pending}
use Rattle.book.proofs.Laws.Settling.{concerned-busy}
use Rattle.book.proofs.Laws.Calls.{GivesUp, Hears, done-accepted, begin-tests, give_up-tests, hear-tests}
use Rattle.demands.specs.Demands.{pending_at, Values, given_up_at, heard_at}

-- an accepted call gives the items of its event: forgetting changes none
pub done-item : (w : ℕ) (a : Answer) (after before : Book) → accepted a ≡ true → (i : ℕ) → item_at (done w a after before).book i ≡ item_at after i
done-item w a after before e i = ap (λ (c : Book). item_at c i) (done-accepted w a after before e) ∙ forget-item w after i

-- an item that stays has its values
pub values-stay : (b c : Book) (a i : ℕ) {u v : ℤ} → item_at c i ≡ item_at b i → Values b a i u v → Values c a i u v
values-stay b c a i e f = record { held = ap (λ (x : Item). value_under x.held a) e ∙ f.held; pending = ap (λ (x : Item). value_under x.pending a) e ∙ f.pending }

-- "Ready. Computing to waiting.": no item changes
pub ready-keeps : (w : ℕ) (b : Book) (n d : ℕ) → accepted (ready w b n d).answer ≡ true → (i : ℕ) → item_at (ready w b n d).book i ≡ item_at b i
unfolding ready done readied
ready-keeps w b n d = done-item w (ready_answer w b n d) (readied w b n d) b

-- "Decide complete or abort.": no item changes
pub complete-keeps : (w : ℕ) (b : Book) (n : ℕ) → accepted (complete w b n).answer ≡ true → (i : ℕ) → item_at (complete w b n).book i ≡ item_at b i
unfolding complete done decide
complete-keeps w b n = done-item w (complete_answer w b n) (decide w b n 1) b

pub abort-keeps : (w : ℕ) (b : Book) (n : ℕ) → accepted (abort w b n).answer ≡ true → (i : ℕ) → item_at (abort w b n).book i ≡ item_at b i
unfolding abort done decide
abort-keeps w b n = done-item w (abort_answer w b n) (decide w b n 2) b

module _ (w : ℕ) (b : Book) (t : Shaped w b) (i : ℕ) (h : i < b.count) (a : ℕ) (l : a < 2 ^ w) where
  abbrev x : Item
  x = item_at b i

  pub begin-values : (bytes : List ℕ) → accepted (begin w b bytes).answer ≡ true
      → Values (begin w b bytes).book a i (held_at b a i) (cond (touches (steps bytes) i) (run (steps bytes) (held_at b a) i) (pending_at b a i))
  unfolding begin done
  begin-values bytes e =
      let s = (begin-tests w b bytes e).0 in
      values-stay (begun w b (steps bytes)) _ a i (done-item w (begin_answer w b bytes) (begun w b (steps bytes)) b e i) (record {
        held = rw (begin-held w b s t (steps bytes) i h);
        pending = begin-pending w b s t (steps bytes) i h a l;
      })

  pub give_up-values : (n d : ℕ) → accepted (give_up w b n d).answer ≡ true
      → Values (give_up w b n d).book a i
      (cond (there d (item_at b i)) (given_up_at w b n d a i) (held_at b a i))
      (cond (there d (item_at b i)) (given_up_at w b n d a i) (pending_at b a i))
  unfolding give_up done
  give_up-values n d e =
      values-stay (gave_up w b n d) _ a i (done-item w (give_up_answer w b n d) (gave_up w b n d) b e i) (record {
        held = held;
        pending = ap (λ (v : Polyvalue). value_under v a) (give_up-pending w b f.sound t n d i h)
            ∙ rw on_it (by_cases (there d x) (λ k. rw k (held ∙ rw k)) (λ k. rw k));
      })
    where
      f : GivesUp w b n d
      f = give_up-tests w b n d e

      on_it : concerned b n d x ≡ there d x
      on_it = concerned-busy w b f.sound n d f.place f.district x ∙ rw f.last (and-true (there d x))

      held : held_at (gave_up w b n d) a i ≡ cond (there d x) (given_up_at w b n d a i) (held_at b a i)
      held = rw on_it at (give_up-held w b f.sound t n d i h a l)

  pub hear-values : (n d : ℕ) → accepted (hear w b n d).answer ≡ true
      → Values (hear w b n d).book a i
      (cond (there d (item_at b i)) (heard_at w b n d (held_at b) a i) (held_at b a i))
      (cond (there d (item_at b i)) (heard_at w b n d (pending_at b) a i) (pending_at b a i))
  unfolding hear done
  hear-values n d e =
      values-stay (heard w b n d) _ a i (done-item w (hear_answer w b n d) (heard w b n d) b e i) (record {
        held = hear-held w b f.sound t n d i h a l ∙ by_cases (there d x) (λ k. rw (k, on_it k)) (λ k. rw k);
        pending = hear-pending w b f.sound t n d i h a l ∙ by_cases (there d x) (λ k. rw (k, on_it k)) (λ k. rw k);
      })
    where
      f : Hears w b n d
      f = hear-tests w b n d e

      on_it : there d x ≡ true → concerned b n d x ≡ busy_on n (record_at b d)
      on_it k = concerned-busy w b f.sound n d f.place f.district x ∙ rw k
