-- States in rows: what holding one tells of it, and the values that its rows give.
use mathlib.Core.Path.{◌≡◌, refl, sym, ap, ◌∙◌, fun_ext}
use mathlib.Core.List.{List}
use Prim.Native.Nat.{ℕ, zero, suc, ◌+◌, ◌≤◌, ◌<◌}
use native.Mathlib.Nat.{add-zero, zero-add}
use native.Mathlib.Omega.{arith}
use denote.Shadow.{shadow}
use lib.Dec.{eqb, ltb}
use lib.IntN.{ℤ, pos}
use lib.ListN.{length, get_or, set, length-set, get_or-eq_default}
use lib.Seq.{ext_get_or, get_or-set_same, get_or-set_other}
use mir.Val.{Val}
use borrow.Author.Tests.{eqb-true, eqb-false, ltb-true, ltb-false}
use Rattle.conditions.proofs.Laws.Below.{by_cases}
use Rattle.book.specs.declared.state.Value.{Value}
use Rattle.book.specs.declared.state.State.{State}
use Rattle.book.specs.Book.{most_items}
use Rattle.book.specs.Programs.{takes}
use Rattle.book.specs.States.{value_of, state_of, values_from, state_rows}
use Rattle.book.specs.contracts.state.State as TState

-- s is a value that code holds
pub record Held (s : State) : Type 0 where
  pub values : List Val
  pub own : shadow ((TState.the_field).row.own_val ((TState.the_field).into s) values)

pub values-long : {s : State} → Held s → length s.values ≡ most_items
values-long {s} h = h.own.1.1.0.1.0.1

-- ---- rows made of values

length-values : (i n : ℕ) (s : ℕ → ℤ) → length (values_from i n s) ≡ n
unfolding values_from
length-values i zero s = refl
length-values i (suc n) s = ap suc (length-values (suc i) n s)

get_or-values : (i n : ℕ) (s : ℕ → ℤ) (j : ℕ) (d : Value) → j < n → get_or (values_from i n s) j d ≡ value_of (s (i + j))
unfolding values_from
get_or-values i zero s j d h = absurd (omega arith)
get_or-values i (suc n) s zero d h = rw (add-zero i)
get_or-values i (suc n) s (suc j) d h =
    let same : suc i + j ≡ i + suc j = omega arith in get_or-values (suc i) n s j d (omega arith) ∙ ap (λ (k : ℕ). value_of (s k)) same

pub rows_long : (s : ℕ → ℤ) → length (state_rows s).values ≡ most_items
unfolding state_rows
rows_long s = length-values 0 most_items s

-- a state of the code is known by its values
pub rows_back : (s : State) → length s.values ≡ most_items → state_rows (state_of s) ≡ s
unfolding state_rows state_of
rows_back s l =
    ap (λ (vs : List Value). record { values = vs })
    (ext_get_or (value_of (pos 0)) _ _ (length-values 0 most_items (state_of s) ∙ sym l) (λ j h.
    get_or-values 0 most_items (state_of s) j (value_of (pos 0)) (omega (arith, length-values 0 most_items (state_of s))) ∙ ap (λ (k : ℕ). value_of (state_of s k)) (zero-add j)))

-- rows keep the values of the items
pub state-row : (s : ℕ → ℤ) (i : ℕ) → i < most_items → state_of (state_rows s) i ≡ s i
unfolding state_rows state_of
state-row s i h = ap (λ (v : Value). v.0) (get_or-values 0 most_items s i (value_of (pos 0)) h) ∙ ap s (zero-add i)

-- past them there is 0
pub state-past : (s : State) → length s.values ≡ most_items → (i : ℕ) → most_items ≤ i → state_of s i ≡ pos 0
unfolding state_of
state-past s l i h = ap (λ (v : Value). v.0) (get_or-eq_default s.values (value_of (pos 0)) (omega arith))

pub state-rows : (s : ℕ → ℤ) → ((i : ℕ) → most_items ≤ i → s i ≡ pos 0) → state_of (state_rows s) ≡ s
state-rows s past = fun_ext (λ i. by_cases (ltb i most_items)
    (λ e. state-row s i (ltb-true i most_items e))
    (λ e. let h : most_items ≤ i = ltb-false i most_items e in state-past (state_rows s) (rows_long s) i h ∙ sym (past i h)))

-- an item takes a value
module _ (s : State) (i : ℕ) (v : Value) (l : length s.values ≡ most_items) (h : i < most_items) where
  set-row : (j : ℕ) → state_of (record { values = set s.values i v }) j ≡ takes (state_of s) i v.0 j
  unfolding state_of
  set-row j =
      by_cases (eqb i j)
      (λ e. rw e (rw (sym (eqb-true i j e)) (ap (λ (w : Value). w.0) (get_or-set_same s.values i v (value_of (pos 0)) (omega arith)))))
      (λ e. rw e (ap (λ (w : Value). w.0) (get_or-set_other s.values i j v (value_of (pos 0)) (λ q. eqb-false i j e (sym q)))))

  pub set-rows : record { values = set s.values i v } ≡ state_rows (takes (state_of s) i v.0)
  set-rows = sym (rows_back (record { values = set s.values i v }) (length-set s.values i v ∙ l)) ∙ ap state_rows (fun_ext set-row)
