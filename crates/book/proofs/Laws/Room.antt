-- "Deciding, hearing and giving up never lack room." (document 01, Answer numbers) A decision changes no polyvalue. Reducing adds no value. The split of give up has at
-- most the different values that held and pending have together, and a sound book has room for those.
use mathlib.Core.Path.{◌≡◌}
use mathlib.Core.Bool.{Bool, true}
use mathlib.Core.List.{List, ◌++◌}
use Prim.Native.Nat.{ℕ, ◌≤◌, ◌<◌}
use native.Mathlib.Omega.{arith}
use lib.IntN.{ℤ}
use lib.ListN.{length}
use Rattle.conditions.proofs.Laws.Below.{by_cases}
use Rattle.polyvalues.specs.declared.polyvalue.Pair.{Pair}
use Rattle.polyvalues.specs.Polyvalues.{most_pairs, WellFormed, in_use}
use Rattle.polyvalues.specs.Operations.{reduce, select, occurs, together}
use Rattle.polyvalues.proofs.Laws.Operations.{reduce-count}
use Rattle.polyvalues.proofs.Laws.Packed.{sound-well_formed}
use Rattle.polyvalues.proofs.Laws.Room.{occurs-append, occurs-first, occurs-second, occurs-reduce, different-le, different-rising, select-count}
use Rattle.book.specs.declared.Book.{Book}
use Rattle.book.specs.Book.{item_at}
use Rattle.book.specs.Sound.{Sound}

-- ---- values that occur

-- two lists have a value together where one of them has it
occurs-either : (u : ℤ) (ps qs rs : List Pair) → (occurs u ps ≡ true → occurs u rs ≡ true) → (occurs u qs ≡ true → occurs u rs ≡ true) → occurs u (ps ++ qs) ≡ true → occurs u rs ≡ true
occurs-either u ps qs rs f g e = by_cases (occurs u ps) f (λ n. g (rw (occurs-append u ps qs, n) at e))

-- ---- how many there are together

-- few together, in either order
pub together-swap : (ps qs : List Pair) → together ps qs ≤ most_pairs → together qs ps ≤ most_pairs
unfolding together
together-swap ps qs few = omega (arith, few, different-le (qs ++ ps) (ps ++ qs) (λ u. occurs-either u qs ps (ps ++ qs) (occurs-second u ps qs) (occurs-first u ps qs)))

-- a list together with itself
pub together-self : (w : ℕ) (ps : List Pair) → WellFormed w ps → together ps ps ≤ most_pairs
unfolding together
together-self w ps f =
    omega (arith, f.few, different-rising ps f.complete.simple.rising, different-le (ps ++ ps) ps (λ u. occurs-either u ps ps ps (λ e. e) (λ e. e)))

pub together-reduce : (w q : ℕ) (o : Bool) (ps qs : List Pair) → together (reduce w q o ps) (reduce w q o qs) ≤ together ps qs
unfolding together
together-reduce w q o ps qs =
    different-le (reduce w q o ps ++ reduce w q o qs) (ps ++ qs)
    (λ u. occurs-either u (reduce w q o ps) (reduce w q o qs) (ps ++ qs)
    (λ e. occurs-first u ps qs (occurs-reduce w q o ps u e))
    (λ e. occurs-second u ps qs (occurs-reduce w q o qs u e)))

-- ---- a sound book

module _ (w : ℕ) (b : Book) (s : Sound w b) (i : ℕ) (h : i < b.count) where
  -- giving up: pending and held are few together
  pub split-together : together (in_use (item_at b i).pending) (in_use (item_at b i).held) ≤ most_pairs
  split-together = together-swap (in_use (item_at b i).held) (in_use (item_at b i).pending) (s.few_together i h)

  -- giving up has room for the pending value where the transaction at q completes and the held value where it aborts
  pub give_up-room : (q : ℕ) → length (select w q (in_use (item_at b i).pending) (in_use (item_at b i).held)) ≤ most_pairs
  give_up-room q = omega (arith, split-together, select-count w q (in_use (item_at b i).pending) (in_use (item_at b i).held))

  -- hearing has room for the reduced values
  pub hear-room : (q : ℕ) (o : Bool) → (length (reduce w q o (in_use (item_at b i).held)) ≤ most_pairs) × (length (reduce w q o (in_use (item_at b i).pending)) ≤ most_pairs)
  hear-room q o = (
    omega (arith, (sound-well_formed w (item_at b i).held (s.held i h)).few, reduce-count w q o (in_use (item_at b i).held)),
    omega (arith, (sound-well_formed w (item_at b i).pending (s.pending i h)).few, reduce-count w q o (in_use (item_at b i).pending)),
  )
