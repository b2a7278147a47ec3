-- The pairs of a table of values: its values, its one form, and how it is made block by block. For any number w of places.
use mathlib.Core.Path.{◌≡◌, refl, sym, ap, ap₂, ◌∙◌}
use mathlib.Core.Bool.{Bool, true, false, not, ◌&&◌, ◌||◌, or-false, and-true, and-false, and_comm}
use mathlib.Core.List.{List, [], ◌∷◌}
use Prim.Native.Nat.{ℕ, zero, suc, ◌^◌, ◌≤◌, ◌<◌}
use native.Mathlib.Omega.{arith}
use lib.IntN.{ℤ}
use lib.Dec.{eqb}
use borrow.Author.Tests.{lt-ltb, ne_eqb, eqb-true, eqb-false}
use Rattle.conditions.specs.Sets.{member, set_of}
use Rattle.conditions.specs.Conditions.{full, union}
use Rattle.conditions.proofs.Laws.Below.{by_cases}
use Rattle.conditions.proofs.Laws.Sets.{member-none, set_of-lt, member-set_of}
use Rattle.conditions.proofs.Laws.Conditions.{member-full, member_union, full-lt, full-filled}
use Rattle.polyvalues.specs.declared.polyvalue.Pair.{Pair}
use Rattle.polyvalues.specs.Values.{equal, in_range}
use Rattle.polyvalues.specs.Pairs.{pair, at, certain}
use Rattle.polyvalues.specs.Polyvalues.{each, Simple, Complete}
use Rattle.polyvalues.specs.Simplify.{join, table_below, canon_over, canon}
use Rattle.polyvalues.proofs.Laws.Holds.{holds, same-holds, holds_at, holds-once, at-holds}
use Rattle.polyvalues.proofs.Laws.Join.{holds-join, each-join, simple-join}
use Rattle.polyvalues.proofs.Laws.Simplify.{nothing-simple}

module _ (w : ℕ) (f : ℕ → ℤ) (s : ℕ) where
  holds-next : (k a : ℕ) (u : ℤ) → a < 2 ^ w → holds (table_below w f s (suc k)) a u ≡ (equal (f k) u && (eqb a k && member s a) || holds (table_below w f s k) a u)
  unfolding table_below
  holds-next k a u h =
      holds-join w (f k) (set_of (2 ^ w) (λ a. eqb a k && member s a)) (table_below w f s k) a u h
      ∙ rw (member-set_of (2 ^ w) (λ a. eqb a k && member s a) a h)

  holds-past : (k a : ℕ) (u : ℤ) → a < 2 ^ w → k ≤ a → holds (table_below w f s k) a u ≡ false
  unfolding table_below
  holds-past zero a u h l = refl
  holds-past (suc k) a u h l =
      holds-next k a u h ∙ rw (ne_eqb a k (λ e. omega arith), and-false (equal (f k) u)) (holds-past k a u h (omega arith))

  holds-below : (k a : ℕ) (u : ℤ) → a < 2 ^ w → a < k → holds (table_below w f s k) a u ≡ (member s a && equal (f a) u)
  holds-below zero a u h l = absurd (omega arith)
  holds-below (suc k) a u h l =
      holds-next k a u h ∙
      by_cases (eqb a k)
      (λ e. rw (e, ← (eqb-true a k e), holds-past a a u h (omega arith)) (or-false _ ∙ and_comm (equal (f a) u) (member s a)))
      (λ e. let apart : a ≡ k → ⊥ = eqb-false a k e in rw (e, and-false (equal (f k) u)) (holds-below k a u h (omega arith)))

  holds-over : (a : ℕ) (u : ℤ) → a < 2 ^ w → holds (canon_over w f s) a u ≡ (member s a && equal (f a) u)
  unfolding canon_over
  holds-over a u h = holds-below (2 ^ w) a u h h

  simple-below : (k : ℕ) → Simple w (table_below w f s k)
  unfolding table_below
  simple-below zero = nothing-simple w
  simple-below (suc k) = simple-join w (f k) (set_of (2 ^ w) (λ a. eqb a k && member s a)) (table_below w f s k) (set_of-lt (2 ^ w) _) (simple-below k)

  pub simple-over : Simple w (canon_over w f s)
  unfolding canon_over
  simple-over = simple-below (2 ^ w)

  -- what is true of each value that f gives is true of each value of the pairs
  each_below : (g : ℤ → Bool) → ((a : ℕ) → a < 2 ^ w → g (f a) ≡ true) → (k : ℕ) → k ≤ 2 ^ w → each (λ p. g p.value) (table_below w f s k) ≡ true
  unfolding table_below
  each_below g e zero h = refl
  each_below g e (suc k) h =
      each-join w (f k) (set_of (2 ^ w) (λ a. eqb a k && member s a)) (λ p. g p.value) (λ p t. t) (table_below w f s k)
      (λ n. e k h) (each_below g e k (omega arith))

  pub each_over : (g : ℤ → Bool) → ((a : ℕ) → a < 2 ^ w → g (f a) ≡ true) → each (λ p. g p.value) (canon_over w f s) ≡ true
  unfolding canon_over
  each_over g e = each_below g e (2 ^ w) (omega arith)

-- ---- block by block

pub over_none : (w : ℕ) (f : ℕ → ℤ) → canon_over w f 0 ≡ []
over_none w f = same-holds w (canon_over w f 0) [] (simple-over w f 0) (nothing-simple w) (λ a u h. holds-over w f 0 a u h ∙ rw (member-none a))

-- a block c of assignments on which f gives v, joined into the pairs over s, gives those over both; the order of the blocks does not matter
pub over-join : (w : ℕ) (f : ℕ → ℤ) (s : ℕ) (v : ℤ) (c : ℕ) → c < 2 ^ 2 ^ w → ((a : ℕ) → a < 2 ^ w → member c a ≡ true → f a ≡ v)
    → join w v c (canon_over w f s) ≡ canon_over w f (union w s c)
over-join w f s v c l e =
    same-holds w _ _ (simple-join w v c (canon_over w f s) l (simple-over w f s)) (simple-over w f (union w s c))
    (λ a u h. holds-join w v c (canon_over w f s) a u h ∙
    rw (holds-over w f s a u h, holds-over w f (union w s c) a u h, member_union w s c a h)
    (by_cases (member c a)
    (λ m. rw (m, e a h m) (absorb (member s a) (equal v u)))
    (λ m. rw (m, and-false (equal v u), or-false (member s a)))))
  where
    absorb : (x y : Bool) → (y && true || x && y) ≡ ((x || true) && y)
    absorb true true = refl
    absorb true false = refl
    absorb false true = refl
    absorb false false = refl

pub over-full : (w : ℕ) (f : ℕ → ℤ) → canon_over w f (full w) ≡ canon w f
unfolding canon
over-full w f = refl

-- ---- over all assignments

pub holds-canon : (w : ℕ) (f : ℕ → ℤ) (a : ℕ) (u : ℤ) → a < 2 ^ w → holds (canon w f) a u ≡ equal (f a) u
unfolding canon
holds-canon w f a u h = holds-over w f (full w) a u h ∙ rw (member-full w a h)

simple-canon : (w : ℕ) (f : ℕ → ℤ) → Simple w (canon w f)
unfolding canon
simple-canon w f = simple-over w f (full w)

pub at-canon : (w : ℕ) (f : ℕ → ℤ) (a : ℕ) → a < 2 ^ w → at (canon w f) a ≡ f a
at-canon w f a h = at-holds (canon w f) a (f a) (simple-canon w f).rising (λ u. holds-canon w f a u h)

pub canon-complete : (w : ℕ) (f : ℕ → ℤ) → Complete w (canon w f)
canon-complete w f = record { simple = simple-canon w f; once = λ a h. holds-once (canon w f) a (f a) (simple-canon w f).rising (λ u. holds-canon w f a u h) }

pub canon-values : (w : ℕ) (f : ℕ → ℤ) → ((a : ℕ) → a < 2 ^ w → in_range (f a) ≡ true) → each (λ p. in_range p.value) (canon w f) ≡ true
unfolding canon
canon-values w f e = each_over w f (full w) in_range e

-- simple pairs that have the values of f, and no others, are the pairs of f
pub is-canon : (w : ℕ) (f : ℕ → ℤ) (ps : List Pair) → Simple w ps → ((a : ℕ) (u : ℤ) → a < 2 ^ w → holds ps a u ≡ equal (f a) u) → ps ≡ canon w f
is-canon w f ps s e = same-holds w ps (canon w f) s (simple-canon w f) (λ a u h. e a u h ∙ sym (holds-canon w f a u h))

-- complete pairs are those of their own values: "Two polyvalues that choose alike under all of document 01's assignments .. are the same pairs."
pub canon-own : (w : ℕ) (ps : List Pair) → Complete w ps → ps ≡ canon w (at ps)
canon-own w ps c = is-canon w (at ps) ps c.simple (λ a u h. holds_at ps a u (c.once a h))

canon-same : (w : ℕ) (f g : ℕ → ℤ) → ((a : ℕ) → a < 2 ^ w → f a ≡ g a) → canon w f ≡ canon w g
canon-same w f g e = is-canon w g (canon w f) (simple-canon w f) (λ a u h. holds-canon w f a u h ∙ ap (λ (v : ℤ). equal v u) (e a h))

pub unique : (w : ℕ) (ps qs : List Pair) → Complete w ps → Complete w qs → ((a : ℕ) → a < 2 ^ w → at ps a ≡ at qs a) → ps ≡ qs
unique w ps qs c d e = canon-own w ps c ∙ canon-same w (at ps) (at qs) e ∙ sym (canon-own w qs d)

-- a certain value is the same under all assignments
pub certain-canon : (w : ℕ) (v : ℤ) → certain w v ≡ canon w (λ a. v)
unfolding certain
certain-canon w v =
    is-canon w (λ a. v) (pair v (full w) ∷ [])
    (record { rising = refl; conditions = ap₂ (λ x y. x && not y && true) (lt-ltb _ _ (full-lt w)) (full-filled w) })
    (λ a u h. rw (member-full w a h) (or-false _ ∙ and-true (equal v u)))
