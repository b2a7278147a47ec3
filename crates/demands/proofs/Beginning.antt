-- Begin, where what counts of every item is its value after a serial run: afterwards it is that after one program more.
use mathlib.Core.Path.{◌≡◌, sym, ◌∙◌, ap}
use mathlib.Core.Bool.{Bool, true, false, cond}
use mathlib.Core.List.{List}
use Prim.Native.Nat.{ℕ, suc, ◌<◌}
use lib.IntN.{ℤ}
use Rattle.conditions.proofs.Laws.Below.{by_cases}
use Rattle.polyvalues.specs.declared.polyvalue.Polyvalue.{Polyvalue}
use Rattle.polyvalues.specs.Pairs.{at}
use Rattle.polyvalues.specs.Polyvalues.{in_use}
use Rattle.book.specs.declared.Book.{Book}
use Rattle.book.specs.declared.Step.{Step}
use Rattle.book.specs.Answers.{accepted}
use Rattle.book.specs.Book.{item_at, item_on}
use Rattle.book.specs.Programs.{steps, run, touches}
use Rattle.book.specs.Sound.{Sound}
use Rattle.book.specs.Begin.{held_at, touches_district, begin}
use Rattle.book.specs.Shaped.{Shaped}
use Rattle.book.proofs.Laws.Programs.{run-reads, run-frame}
use Rattle.book.proofs.Laws.Calls.{begin-tests}
use Rattle.book.proofs.Laws.Touched.{touched-below, touched-idle}
use Rattle.book.proofs.Laws.BeginSound.{Begins, touched-district, not-touched}
use Rattle.demands.proofs.Events.{begin-values}
use Rattle.demands.specs.Demands.{pending_at, Says}
use Rattle.demands.proofs.Items.{begin-on}
use Rattle.demands.proofs.Choosing.{chosen_at}

-- an item that is on no transaction: what counts is its held value
pub chosen-idle : (w : ℕ) (b : Book) → Sound w b → (g : ℕ → Bool) (a i : ℕ) → i < b.count → item_on b (item_at b i) ≡ 0 → (pending_at b a i ≡ held_at b a i) × (chosen_at b g a i ≡ held_at b a i)
chosen-idle w b s g a i h none =
    let same : pending_at b a i ≡ held_at b a i = ap (λ (v : Polyvalue). at (in_use v) a) (s.idle_same i h none) in
    (same, rw same (by_cases (g (item_on b (item_at b i))) (λ e. rw e) (λ e. rw e)))

module _ (w : ℕ) (b : Book) (t : Shaped w b) (g : ℕ → Bool) (a : ℕ) (says : Says w b g a) (bytes : List ℕ) (e : accepted (begin w b bytes).answer ≡ true)
    (s : ℕ → ℤ) (main : (i : ℕ) → i < b.count → chosen_at b g a i ≡ s i) where
  abbrev xs : List Step
  xs = steps bytes

  abbrev n : ℕ
  n = suc b.last.0

  sound : Sound w b
  sound = (begin-tests w b bytes e).0

  tests : Begins w b (steps bytes)
  tests = (begin-tests w b bytes e).1

  -- an item of a touched district was on no transaction
  none : (i : ℕ) → touches_district b xs (item_at b i).district ≡ true → item_on b (item_at b i) ≡ 0
  unfolding item_on
  none i k = (touched-idle b xs sound.belongs tests.idles (item_at b i).district k).1

  -- so its held value is that of the serial run
  held : (i : ℕ) → i < b.count → touches_district b xs (item_at b i).district ≡ true → held_at b a i ≡ s i
  held i h k = sym (chosen-idle w b sound g a i h (none i k)).1 ∙ main i h

  -- and what the program makes of the touched items' held values is what it makes of the serial run's
  ran : (i : ℕ) → touches xs i ≡ true → run xs (held_at b a) i ≡ run xs s i
  ran i k = run-reads xs (held_at b a) s (λ j z. held j (touched-below b.count xs j tests.inside z) (touched-district w b sound t xs tests j z)) i k

  -- the pending value of an item of a touched district
  pended : (i : ℕ) → i < b.count → touches_district b xs (item_at b i).district ≡ true → cond (touches xs i) (run xs (held_at b a) i) (pending_at b a i) ≡ run xs s i
  pended i h k =
      by_cases (touches xs i)
      (λ z. rw z (ran i z))
      (λ z. rw z ((chosen-idle w b sound g a i h (none i k)).0 ∙ held i h k ∙ sym (run-frame xs s i z)))

  pub begin-chosen : (i : ℕ) → i < b.count → chosen_at (begin w b bytes).book g a i ≡ cond (g (suc b.last.0)) (run (steps bytes) s) s i
  begin-chosen i h =
      let v = begin-values w b t i h a says.assignment bytes e in
      rw (begin-on w b t i h bytes e, v.held, v.pending)
      (by_cases (touches_district b xs (item_at b i).district)
      (λ k. rw (k, pended i h k, held i h k) (by_cases (g n) (λ z. rw z) (λ z. rw z)))
      (λ k.
      let not : touches xs i ≡ false = not-touched w b sound t xs tests i k in
      rw (k, not) (main i h ∙ by_cases (g n) (λ z. rw z (sym (run-frame xs s i not))) (λ z. rw z))))
