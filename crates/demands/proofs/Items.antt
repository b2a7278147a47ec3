-- No call moves an item to another district; and what transaction an item is on after each call.
use mathlib.Core.Path.{◌≡◌, sym, ◌∙◌, ap}
use mathlib.Core.Bool.{true, false, cond}
use mathlib.Core.List.{List}
use Prim.Native.Nat.{ℕ, suc, ◌<◌}
use lib.Dec.{eqb}
use borrow.Author.Tests.{eqb-true}
use Rattle.conditions.proofs.Laws.Below.{by_cases}
use Rattle.book.specs.declared.Book.{Book}
use Rattle.book.specs.declared.Item.{Item}
use Rattle.book.specs.Answers.{accepted}
use Rattle.book.specs.Book.{record_at, item_at, record_on, item_on, open_of}
use Rattle.book.specs.Programs.{steps, touches}
use Rattle.book.specs.Records.{computing_on, busy_on, hear_record}
use Rattle.book.specs.Items.{there, concerned, split, reduce_item}
use Rattle.book.specs.Transactions.{done}
use Rattle.book.specs.Begin.{begin_answer, touches_district, begin_item, begun, begin}
use Rattle.book.specs.Ready.{ready}
use Rattle.book.specs.GiveUp.{give_up_answer, give_up_item, gave_up, give_up}
use Rattle.book.specs.Hear.{outcome, hear_answer, hear_item, heard, hear}
use Rattle.book.specs.Shaped.{Shaped}
use Rattle.book.proofs.Laws.Values.{begin-item, give_up-item, hear-item}
use Rattle.demands.proofs.Events.{done-item, ready-keeps}
use Rattle.book.proofs.Laws.But.{computing-on, busy-is, busy-on}
use Rattle.book.proofs.Laws.Calls.{begin-tests, ready-tests, give_up-tests, hear-tests}
use Rattle.demands.proofs.Tables.{ready-record, give_up-record, hear-record, begin-record}

-- an item stays on its transaction where it stays and no record changes: complete and abort
pub stays_on : (b c : Book) (i : ℕ) → item_at c i ≡ item_at b i → ((d : ℕ) → record_at c d ≡ record_at b d) → item_on c (item_at c i) ≡ item_on b (item_at b i)
unfolding item_on
stays_on b c i item records = rw (item, records (item_at b i).district)

module _ (w : ℕ) (b : Book) (t : Shaped w b) (i : ℕ) (h : i < b.count) where
  abbrev x : Item
  x = item_at b i

  -- ---- ready

  pub ready_on : (n d : ℕ) → accepted (ready w b n d).answer ≡ true → item_on (ready w b n d).book (item_at (ready w b n d).book i) ≡ item_on b (item_at b i)
  unfolding item_on record_on
  ready_on n d e = rw (ready-keeps w b n d e i, ready-record w b t n d e x.district) (by_cases (eqb x.district d)
      (λ k. rw (k, eqb-true x.district d k) (sym (busy-on (record_at b d) busy)))
      (λ k. rw k))
    where
      busy : eqb (record_at b d).phase 0 ≡ false
      busy = ap (λ (m : ℕ). eqb m 0) (computing-on n (record_at b d) (ready-tests w b n d e).last).0

  -- ---- give up

  pub give_up-district : (n d : ℕ) → accepted (give_up w b n d).answer ≡ true → (item_at (give_up w b n d).book i).district ≡ (item_at b i).district
  unfolding give_up done give_up_item split
  give_up-district n d e =
      rw (done-item w (give_up_answer w b n d) (gave_up w b n d) b e i, give_up-item w b (give_up-tests w b n d e).sound t n d i h)
      (by_cases (concerned b n d x)
      (λ k. rw k (by_cases (computing_on n (record_at b d)) (λ z. rw z) (λ z. rw z)))
      (λ k. rw k))

  pub give_up-on : (n d : ℕ) (e : accepted (give_up w b n d).answer ≡ true)
      → item_on (give_up w b n d).book (item_at (give_up w b n d).book i) ≡ cond (there d (item_at b i)) 0 (item_on b (item_at b i))
  unfolding item_on record_on
  give_up-on n d e = rw (give_up-district n d e, give_up-record w b t n d e x.district) (by_cases (eqb x.district d) (λ k. rw k) (λ k. rw k))

  -- an item of a district that is busy on n is on n
  pub busy-item : (n d : ℕ) → busy_on n (record_at b d) ≡ true → there d (item_at b i) ≡ true → item_on b (item_at b i) ≡ n
  unfolding item_on
  busy-item n d on k =
      let busy = busy-is n (record_at b d) on in
      rw (eqb-true x.district d k) (busy-on (record_at b d) busy.0 ∙ busy.1)

  -- ---- hear

  pub hear-district : (n d : ℕ) → accepted (hear w b n d).answer ≡ true → (item_at (hear w b n d).book i).district ≡ (item_at b i).district
  unfolding hear done hear_item reduce_item
  hear-district n d e =
      rw (done-item w (hear_answer w b n d) (heard w b n d) b e i, hear-item w b (hear-tests w b n d e).sound t n d i h)
      (by_cases (there d x)
      (λ k. rw k (by_cases (concerned b n d x) (λ z. rw z (by_cases (outcome (open_of w b n)) (λ y. rw y) (λ y. rw y))) (λ z. rw z)))
      (λ k. rw k))

  pub hear-on : (n d : ℕ) (e : accepted (hear w b n d).answer ≡ true)
      → item_on (hear w b n d).book (item_at (hear w b n d).book i) ≡ cond (there d (item_at b i)) (cond (busy_on n (record_at b d)) 0 (item_on b (item_at b i))) (item_on b (item_at b i))
  unfolding item_on record_on hear_record
  hear-on n d e = rw (hear-district n d e, hear-record w b t n d e x.district) (by_cases (eqb x.district d)
      (λ k. rw (k, eqb-true x.district d k) (by_cases (busy_on n (record_at b d)) (λ z. rw z) (λ z. rw z)))
      (λ k. rw k))

  -- ---- begin

  pub begin-district : (bytes : List ℕ) → accepted (begin w b bytes).answer ≡ true → (item_at (begin w b bytes).book i).district ≡ (item_at b i).district
  unfolding begin done begin_item
  begin-district bytes e =
      rw (done-item w (begin_answer w b bytes) (begun w b (steps bytes)) b e i, begin-item w b (begin-tests w b bytes e).0 t (steps bytes) i h)
      (by_cases (touches (steps bytes) i) (λ k. rw k) (λ k. rw k))

  pub begin-on : (bytes : List ℕ) → (e : accepted (begin w b bytes).answer ≡ true)
      → item_on (begin w b bytes).book (item_at (begin w b bytes).book i) ≡ cond (touches_district b (steps bytes) (item_at b i).district) (suc b.last.0) (item_on b (item_at b i))
  unfolding item_on record_on
  begin-on bytes e =
      rw (begin-district bytes e, begin-record w b t bytes e x.district ((begin-tests w b bytes e).0.belongs i h))
      (by_cases (touches_district b (steps bytes) x.district) (λ k. rw k) (λ k. rw k))
