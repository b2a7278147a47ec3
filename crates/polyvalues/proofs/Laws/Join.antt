-- Joining a value under a condition into a list of pairs.
use mathlib.Core.Path.{◌≡◌, refl, ap₂, ◌∙◌}
use mathlib.Core.Bool.{Bool, true, false, not, ◌&&◌, ◌||◌, and-false, or_assoc}
use mathlib.Core.List.{List, [], ◌∷◌}
use Prim.Native.Nat.{ℕ, suc, ◌^◌, ◌≤◌, ◌<◌}
use native.Mathlib.Omega.{arith}
use lib.IntN.{ℤ}
use lib.ListN.{length}
use borrow.Author.Tests.{lt-ltb, not-true}
use Rattle.conditions.specs.Sets.{member}
use Rattle.conditions.specs.Conditions.{union, empty}
use Rattle.conditions.proofs.Laws.Below.{and_left, and_right, or_swap, by_cases}
use Rattle.conditions.proofs.Laws.Conditions.{member_union, union-lt, empty-none, union-filled}
use Rattle.polyvalues.specs.declared.polyvalue.Pair.{Pair}
use Rattle.polyvalues.specs.Values.{below, equal}
use Rattle.polyvalues.specs.Pairs.{pair, assignments, applies}
use Rattle.polyvalues.specs.Polyvalues.{each, rises_from, rises, of_places, proper, Simple}
use Rattle.polyvalues.specs.Simplify.{insert, join}
use Rattle.polyvalues.proofs.Laws.Values.{equal-true, below-else}
use Rattle.polyvalues.proofs.Laws.Holds.{holds}

-- where the value comes to stand: before the first pair, in it, or after it
insert-by : (P : List Pair → Type 0) (w : ℕ) (v : ℤ) (c : ℕ) (p : Pair) (ps : List Pair) → (below v p.value ≡ true → P (pair v c ∷ p ∷ ps))
    → (v ≡ p.value → P (pair p.value (union w (assignments p) c) ∷ ps)) → (below p.value v ≡ true → P (p ∷ insert w v c ps)) → P (insert w v c (p ∷ ps))
unfolding insert
insert-by P w v c p ps before within after =
    by_cases (below v p.value)
    (λ b. rw b (before b))
    (λ b. by_cases (equal v p.value) (λ e. rw (b, e) (within (equal-true v p.value e))) (λ e. rw (b, e) (after (below-else v p.value b e))))

join_by : (P : List Pair → Type 0) (w : ℕ) (v : ℤ) (c : ℕ) (ps : List Pair) → (empty w c ≡ true → P ps) → (empty w c ≡ false → P (insert w v c ps)) → P (join w v c ps)
unfolding join
join_by P w v c ps none some = by_cases (empty w c) (λ e. rw e (none e)) (λ e. rw e (some e))

module _ (w : ℕ) (v : ℤ) (c : ℕ) where
  -- ---- the relation

  holds-insert : (ps : List Pair) (a : ℕ) (u : ℤ) → a < 2 ^ w → holds (insert w v c ps) a u ≡ (equal v u && member c a || holds ps a u)
  unfolding insert
  holds-insert [] a u h = refl
  holds-insert (p ∷ ps) a u h =
      insert-by (λ r. holds r a u ≡ (equal v u && member c a || holds (p ∷ ps) a u)) w v c p ps
      (λ b. refl)
      (λ e. rw (e, member_union w (assignments p) c a h) (both (equal p.value u) (applies p a) (member c a) (holds ps a u)))
      (λ b. rw (holds-insert ps a u h) (or_swap (equal p.value u && applies p a) (equal v u && member c a) (holds ps a u)))
    where
      both : (x m n r : Bool) → (x && (m || n) || r) ≡ (x && n || (x && m || r))
      both false m n r = refl
      both true m n r = or_assoc m n r ∙ or_swap m n r

  pub holds-join : (ps : List Pair) (a : ℕ) (u : ℤ) → a < 2 ^ w → holds (join w v c ps) a u ≡ (equal v u && member c a || holds ps a u)
  holds-join ps a u h =
      join_by (λ r. holds r a u ≡ (equal v u && member c a || holds ps a u)) w v c ps
      (λ e. rw (empty-none w c e a h, and-false (equal v u)))
      (λ e. holds-insert ps a u h)

  -- ---- the values rise

  rises-from : (u : ℤ) (ps : List Pair) → below u v ≡ true → rises_from u ps ≡ true → rises_from u (insert w v c ps) ≡ true
  unfolding insert
  rises-from u [] l r = rw l
  rises-from u (p ∷ ps) l r =
      insert-by (λ s. rises_from u s ≡ true) w v c p ps
      (λ b. ap₂ ◌&&◌ l (ap₂ ◌&&◌ b (and_right (below u p.value) _ r)))
      (λ e. r)
      (λ b. ap₂ ◌&&◌ (and_left (below u p.value) _ r) (rises-from p.value ps b (and_right (below u p.value) _ r)))

  rises-insert : (ps : List Pair) → rises ps ≡ true → rises (insert w v c ps) ≡ true
  unfolding insert
  rises-insert [] r = refl
  rises-insert (p ∷ ps) r =
      insert-by (λ s. rises s ≡ true) w v c p ps (λ b. ap₂ ◌&&◌ b r) (λ e. r) (λ b. rises-from p.value ps b r)

  rises-join : (ps : List Pair) → rises ps ≡ true → rises (join w v c ps) ≡ true
  rises-join ps r = join_by (λ s. rises s ≡ true) w v c ps (λ e. r) (λ e. rises-insert ps r)

  -- ---- what is true of each pair stays so, if it is true of the new one and of a union

  module _ (f : Pair → Bool) (old : (p : Pair) → f p ≡ true → f (pair p.value (union w (assignments p) c)) ≡ true) where
    each-insert : (ps : List Pair) → f (pair v c) ≡ true → each f ps ≡ true → each f (insert w v c ps) ≡ true
    unfolding insert
    each-insert [] new e = rw new
    each-insert (p ∷ ps) new e =
        let first : f p ≡ true = and_left (f p) _ e in
        let rest : each f ps ≡ true = and_right (f p) _ e in
        insert-by (λ s. each f s ≡ true) w v c p ps
        (λ b. ap₂ ◌&&◌ new e) (λ b. ap₂ ◌&&◌ (old p first) rest) (λ b. ap₂ ◌&&◌ first (each-insert ps new rest))

    pub each-join : (ps : List Pair) → (empty w c ≡ false → f (pair v c) ≡ true) → each f ps ≡ true → each f (join w v c ps) ≡ true
    each-join ps new e = join_by (λ s. each f s ≡ true) w v c ps (λ n. e) (λ n. each-insert ps (new n) e)

  pub simple-join : (ps : List Pair) → c < 2 ^ 2 ^ w → Simple w ps → Simple w (join w v c ps)
  simple-join ps h s = record {
    rising = rises-join ps s.rising;
    conditions = each-join (proper w)
        (λ p e. ap₂ (λ x y. x && not y) (lt-ltb _ _ (union-lt w (assignments p) c))
        (union-filled w (assignments p) c (not-true _ (and_right (of_places w p) _ e))))
        ps (λ n. ap₂ (λ x y. x && not y) (lt-ltb _ _ h) n) s.conditions;
  }

  -- ---- how many pairs

  length-insert : (ps : List Pair) → length (insert w v c ps) ≤ suc (length ps)
  unfolding insert
  length-insert [] = omega arith
  length-insert (p ∷ ps) =
      insert-by (λ s. length s ≤ suc (suc (length ps))) w v c p ps (λ b. omega arith) (λ e. omega arith) (λ b. omega (arith, length-insert ps))

  pub length-join : (ps : List Pair) → length (join w v c ps) ≤ suc (length ps)
  length-join ps = join_by (λ s. length s ≤ suc (length ps)) w v c ps (λ e. omega arith) (λ e. length-insert ps)

  grows-insert : (ps : List Pair) → length ps ≤ length (insert w v c ps)
  unfolding insert
  grows-insert [] = omega arith
  grows-insert (p ∷ ps) =
      insert-by (λ s. suc (length ps) ≤ length s) w v c p ps (λ b. omega arith) (λ e. omega arith) (λ b. omega (arith, grows-insert ps))

  pub grows-join : (ps : List Pair) → length ps ≤ length (join w v c ps)
  grows-join ps = join_by (λ s. length ps ≤ length s) w v c ps (λ e. omega arith) (λ e. grows-insert ps)
