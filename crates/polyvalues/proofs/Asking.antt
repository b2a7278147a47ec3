-- Looking at the pairs, one after the other, finds what is asked.
use mathlib.Core.Path.{◌≡◌, refl, sym, ◌∙◌}
use mathlib.Core.Bool.{true, false, cond}
use mathlib.Core.List.{List, [], ◌∷◌}
use Prim.Native.Nat.{ℕ, ◌+◌, ◌^◌, ◌<◌, ◌≤◌}
use native.Mathlib.Nat.{zero-add}
use native.Mathlib.Omega.{arith}
use lib.Dec.{eqb}
use lib.IntN.{ℤ}
use lib.ListN.{length, drop}
use lib.Seq.{drop-length}
use borrow.Author.Tests.{eqb-true, eqb-false, ne_eqb, lt-ltb, le-ltb}
use Rattle.std.specs.Prelude.{Option, Some, None, is_some}
use Rattle.conditions.specs.Places.{places}
use Rattle.conditions.proofs.Laws.Below.{by_cases}
use Rattle.polyvalues.specs.declared.polyvalue.Pair.{Pair}
use Rattle.polyvalues.specs.Pairs.{applies, at, hits, asked}

-- what is asked of the pairs that are left, where the pairs before them found the value of one that applies, or none
abbrev pub left : Option ℤ → List Pair → ℕ → Option ℤ
left None ps a = cond (eqb (hits ps a) 1) (Some (at ps a)) None
left (Some v) ps a = cond (eqb (hits ps a) 0) (Some v) None

pub left-all : (ps : List Pair) (a : ℕ) → a < 2 ^ places → left None ps a ≡ asked places ps a
unfolding asked
left-all ps a h = rw (lt-ltb a (2 ^ places) h)

-- past the last assignment it is refused
pub asked-past : (ps : List Pair) (a : ℕ) → 2 ^ places ≤ a → None ≡ asked places ps a
unfolding asked
asked-past ps a h = rw (le-ltb a (2 ^ places) h)

pub left-other : (f : Option ℤ) (p : Pair) (ps : List Pair) (a : ℕ) → applies p a ≡ false → left f (p ∷ ps) a ≡ left f ps a
left-other None p ps a e = rw (e, zero-add (hits ps a))
left-other (Some v) p ps a e = rw (e, zero-add (hits ps a))

-- one more makes one of none
one-more : (n : ℕ) → eqb (1 + n) 1 ≡ eqb n 0
one-more n =
    by_cases (eqb n 0) (λ e. let none : n ≡ 0 = eqb-true n 0 e in rw none) (λ e. let some : n ≡ 0 → ⊥ = eqb-false n 0 e in ne_eqb (1 + n) 1 (λ q. some (omega arith)) ∙ sym e)

pub left-first : (f : Option ℤ) (p : Pair) (ps : List Pair) (a : ℕ) → is_some f ≡ false → applies p a ≡ true → left f (p ∷ ps) a ≡ left (Some p.value) ps a
left-first None p ps a n e = rw (e, one-more (hits ps a))
left-first (Some v) p ps a n e = cc

pub left-second : (f : Option ℤ) (p : Pair) (ps : List Pair) (a : ℕ) → is_some f ≡ true → applies p a ≡ true → left f (p ∷ ps) a ≡ None
left-second None p ps a s e = cc
left-second (Some v) p ps a s e = rw (e, ne_eqb (1 + hits ps a) 0 (λ q. omega arith))

left-none : (f : Option ℤ) (a : ℕ) → left f [] a ≡ f
left-none None a = refl
left-none (Some v) a = refl

-- at the end of a list what is left is what was found
pub left_end : (ps : List Pair) (i a : ℕ) (f : Option ℤ) → i ≡ length ps → left f (drop i ps) a ≡ f
left_end ps i a f e = rw (e, drop-length ps) (left-none f a)
