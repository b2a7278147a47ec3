-- A step on a state, and a program run on one: what the code leaves is what the definition says, in rows.
use mathlib.Core.Path.{◌≡◌, refl, sym, ap, ap₂, ◌∙◌}
use mathlib.Core.Bool.{true, false, ◌&&◌, true≢false}
use mathlib.Core.List.{List, ◌∷◌}
use Prim.Native.Nat.{ℕ, suc, ◌≤◌, ◌<◌}
use native.Mathlib.Omega.{arith}
use lib.IntN.{ℤ, pos, ◌+ℤ◌}
use lib.ListN.{length, get_or, drop, drop_of_length-le}
use lib.Dec.{eqb, leb}
use lib.Seq.{drop-cons}
use borrow.Author.Tests.{eq-eqb, ne_eqb, le-leb}
use Rattle.std.specs.Result.{is_ok}
use Rattle.std.proofs.Common.{Some, None, Ok, Err}
use Rattle.std.proofs.lemmas.Option.{none-some, same_Some}
use Rattle.conditions.proofs.Laws.Below.{by_cases}
use Rattle.polyvalues.specs.Values.{in_range, below, sum}
use Rattle.book.specs.declared.Step.{Step}
use Rattle.book.specs.declared.state.State.{State}
use Rattle.book.specs.Book.{most_items}
use Rattle.book.specs.Programs.{numbered, takes, declines, after, after_all, declined_from, declined, run}
use Rattle.book.specs.Begin.{outside}
use Rattle.book.specs.States.{no_step, state_of, state_rows, added, stepped, ran}
use Rattle.book.proofs.Laws.Programs.{after-other}
use Rattle.book.proofs.States.{rows_long, rows_back, state-row, state-past, state-rows}
use Rattle.book.proofs.Laws.Touched.{names-past}

-- ---- a step on a state

module _ (x : Step) (s : State) where
  pub stepped-declines : x.kind ≡ 1 → below (state_of s x.item) x.operand ≡ true → None ≡ stepped x (state_of s)
  unfolding stepped declines
  stepped-declines e d = rw (e, d)

  pub stepped-need : length s.values ≡ most_items → x.kind ≡ 1 → below (state_of s x.item) x.operand ≡ false → Some s ≡ stepped x (state_of s)
  unfolding stepped declines after
  stepped-need l e d = rw (e, d, rows_back s l)

  pub stepped-add : x.kind ≡ 2 → added (state_of s) x.item (state_of s x.item +ℤ x.operand) ≡ stepped x (state_of s)
  unfolding added stepped declines after
  stepped-add e = by_cases (in_range (state_of s x.item +ℤ x.operand)) (λ d. rw (e, d)) (λ d. rw (e, d))

  pub stepped-set : x.kind ≡ 3 → {t : State} → t ≡ state_rows (takes (state_of s) x.item x.operand) → Some t ≡ stepped x (state_of s)
  unfolding stepped declines after
  stepped-set e d = rw (e, d)

  pub stepped-copy : x.kind ≡ 4 → {t : State} → t ≡ state_rows (takes (state_of s) x.item (state_of s (numbered x.operand))) → Some t ≡ stepped x (state_of s)
  unfolding stepped declines after
  stepped-copy e d = rw (e, d)

  pub stepped-other : length s.values ≡ most_items → (leb 1 x.kind && leb x.kind 4) ≡ false → Some s ≡ stepped x (state_of s)
  unfolding stepped declines after
  stepped-other l e =
      let other : (k : ℕ) → 1 ≤ k → k ≤ 4 → eqb x.kind k ≡ false = λ k h m. ne_eqb x.kind k (λ q. absurd (true≢false (sym (ap₂ ◌&&◌ (le-leb 1 x.kind (omega arith)) (le-leb x.kind 4 (omega arith))) ∙ e))) in
      rw (other 1 (omega arith) (omega arith), other 2 (omega arith) (omega arith), other 3 (omega arith) (omega arith), other 4 (omega arith) (omega arith), rows_back s l)

after-past : (x : Step) (s : State) → length s.values ≡ most_items → outside most_items x ≡ false → (i : ℕ) → most_items ≤ i → after x (state_of s) i ≡ pos 0
after-past x s l inside i h = after-other x (state_of s) i (names-past most_items x inside i h) ∙ state-past s l i h

-- ---- a sum that an item takes

pub summed : (a b v : ℤ) → Some v ≡ sum a b → (in_range (a +ℤ b) ≡ true) × (v ≡ a +ℤ b)
unfolding sum
summed a b v e =
    by_cases (in_range (a +ℤ b))
    (λ t. (t, let is : Some v ≡ Some (a +ℤ b) = rw t at e in cc))
    (λ t. let never : Some v ≡ None = rw t at e in cc)

pub not-summed : (a b : ℤ) → None ≡ sum a b → in_range (a +ℤ b) ≡ false
unfolding sum
not-summed a b e =
    by_cases (in_range (a +ℤ b))
    (λ t. let never : None ≡ Some (a +ℤ b) = rw t at e in cc)
    (λ t. t)

module _ (s : State) (i : ℕ) (z : ℤ) where
  pub added-yes : in_range z ≡ true → {t : State} → t ≡ state_rows (takes (state_of s) i z) → Some t ≡ added (state_of s) i z
  unfolding added
  added-yes e d = rw (e, d)

  pub added-no : in_range z ≡ false → None ≡ added (state_of s) i z
  unfolding added
  added-no e = rw e

-- ---- the run of a program

-- a program is run on s, and before step i the state is t
pub record Running (xs : List Step) (s : State) (i : ℕ) (t : State) : Type 0 where
  pub long : length t.values ≡ most_items
  pub number : declined_from (suc i) (drop i xs) (state_of t) ≡ declined xs (state_of s)
  pub values : after_all (drop i xs) (state_of t) ≡ after_all xs (state_of s)

pub running-start : (xs : List Step) (s : State) → length s.values ≡ most_items → Running xs s 0 s
running-start xs s l = record { long = l; number = refl; values = refl }

-- a run that declines leaves the state as it was
pub run-declined : (xs : List Step) (s : State) (n : ℕ) → length s.values ≡ most_items → suc n ≡ declined xs (state_of s)
    → (Err (record { 0 = suc n }) ≡ ran xs (state_of s)) × (s ≡ state_rows (run xs (state_of s)))
unfolding ran run
run-declined xs s n l e = let some = ne_eqb (declined xs (state_of s)) 0 (λ q. omega arith) in (rw (some, e), rw some (sym (rows_back s l)))

module _ (xs : List Step) (s t : State) (i : ℕ) (h : i < length xs) (now-at : Running xs s i t) where
  more-number : declined_from (suc i) (get_or xs i no_step ∷ drop (suc i) xs) (state_of t) ≡ declined xs (state_of s)
  more-number = rw (drop-cons xs i no_step h) at now-at.number

  more-values : after_all (get_or xs i no_step ∷ drop (suc i) xs) (state_of t) ≡ after_all xs (state_of s)
  more-values = rw (drop-cons xs i no_step h) at now-at.values

  -- a step that declines ends it, and the state is the first one
  pub run-declines : None ≡ stepped (get_or xs i no_step) (state_of t) → suc i ≡ declined xs (state_of s)
  unfolding stepped declined_from
  run-declines e = by_cases (declines (get_or xs i no_step) (state_of t)) (λ d. rw d at more-number) (λ d. absurd (none-some _ (rw d at e)))

  -- after one that does not, the run goes on
  pub run_on : outside most_items (get_or xs i no_step) ≡ false → {r : State} → Some r ≡ stepped (get_or xs i no_step) (state_of t) → Running xs s (suc i) r
  unfolding stepped declined_from after_all
  run_on inside {r} e =
      by_cases (declines (get_or xs i no_step) (state_of t)) (λ d. absurd (none-some _ (sym (rw d at e))))
      (λ d.
      let rows : r ≡ state_rows (after (get_or xs i no_step) (state_of t)) = same_Some _ _ (rw d at e) in
      let next : state_of r ≡ after (get_or xs i no_step) (state_of t) = ap state_of rows ∙ state-rows _ (after-past (get_or xs i no_step) t now-at.long inside) in
      record {
        long = ap (λ (u : State). length u.values) rows ∙ rows_long _;
        number = ap (declined_from (suc (suc i)) (drop (suc i) xs)) next ∙ rw d at more-number;
        values = ap (after_all (drop (suc i) xs)) next ∙ more-values;
      })

-- after the last one
pub run_ends : (xs : List Step) (s t : State) (i : ℕ) → length xs ≤ i → Running xs s i t → (Ok tt ≡ ran xs (state_of s)) × (t ≡ state_rows (run xs (state_of s)))
unfolding ran run declined_from after_all
run_ends xs s t i h now-at =
    let number : 0 ≡ declined xs (state_of s) = rw (drop_of_length-le xs h) at now-at.number in
    let values : state_of t ≡ after_all xs (state_of s) = rw (drop_of_length-le xs h) at now-at.values in
    let none = eq-eqb (declined xs (state_of s)) 0 (sym number) in
    (rw none, rw (none, sym values) (sym (rows_back t now-at.long)))

-- ---- for the callers of a run

-- it is well where no step declines
pub ran-well : (xs : List Step) (s : ℕ → ℤ) → is_ok (ran xs s) ≡ eqb (declined xs s) 0
unfolding ran
ran-well xs s = by_cases (eqb (declined xs s) 0) (λ e. rw e) (λ e. rw e)

-- the values after it
pub run-value : (xs : List Step) (s : ℕ → ℤ) (i : ℕ) → i < most_items → state_of (state_rows (run xs s)) i ≡ run xs s i
run-value xs s i h = state-row (run xs s) i h
