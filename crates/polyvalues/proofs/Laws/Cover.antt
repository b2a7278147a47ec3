-- That each assignment is in exactly one condition, as code tests it: no condition meets those before it, and together they are all.
use mathlib.Core.Path.{◌≡◌, refl, sym, ap, ap₂, ◌∙◌}
use mathlib.Core.Bool.{Bool, true, false, ◌&&◌, ◌||◌, true≢false}
use mathlib.Core.List.{List, [], ◌∷◌}
use Prim.Native.Nat.{ℕ, ◌+◌, ◌^◌, ◌<◌}
use native.Mathlib.Omega.{arith}
use lib.Dec.{eqb}
use borrow.Author.Tests.{eq-eqb, eqb-true}
use Rattle.conditions.specs.Sets.{digit, member}
use Rattle.conditions.specs.Conditions.{full, union, intersection, empty}
use Rattle.conditions.proofs.Laws.Below.{and_left, and_right}
use Rattle.conditions.proofs.Laws.Sets.{same-members}
use Rattle.conditions.proofs.Laws.Conditions.{member-full, member_union, member-intersection, full-lt, union-lt, empty-none, none-empty}
use Rattle.polyvalues.specs.declared.polyvalue.Pair.{Pair}
use Rattle.polyvalues.specs.Pairs.{assignments, hits}

-- the conditions of the list and the set s are apart, and all assignments together
abbrev pub covers : ℕ → ℕ → List Pair → Bool
covers w s [] = eqb s (full w)
covers w s (p ∷ ps) = empty w (intersection w s (assignments p)) && covers w (union w s (assignments p)) ps

apart-or : (x y : Bool) → (x && y) ≡ false → digit (x || y) ≡ digit x + digit y
apart-or true true e = absurd (true≢false e)
apart-or true false e = refl
apart-or false y e = omega arith

one_apart : (x y : Bool) (n : ℕ) → digit x + (digit y + n) ≡ 1 → (x && y) ≡ false
one_apart true true n e = absurd (omega arith)
one_apart true false n e = refl
one_apart false y n e = refl

pub covers-once : (w s : ℕ) (ps : List Pair) → covers w s ps ≡ true → (a : ℕ) → a < 2 ^ w → digit (member s a) + hits ps a ≡ 1
covers-once w s [] e a h = rw (eqb-true s (full w) e, member-full w a h)
covers-once w s (p ∷ ps) e a h =
    let rest : digit (member (union w s (assignments p)) a) + hits ps a ≡ 1 =
    covers-once w (union w s (assignments p)) ps (and_right (empty w (intersection w s (assignments p))) _ e) a h in
    let split : digit (member (union w s (assignments p)) a) ≡ digit (member s a) + digit (member (assignments p) a) =
    ap digit (member_union w s (assignments p) a h) ∙ apart-or (member s a) (member (assignments p) a)
    (sym (member-intersection w s (assignments p) a h) ∙ empty-none w _ (and_left _ (covers w (union w s (assignments p)) ps) e) a h) in
    omega arith

pub once-covers : (w s : ℕ) (ps : List Pair) → s < 2 ^ 2 ^ w → ((a : ℕ) → a < 2 ^ w → digit (member s a) + hits ps a ≡ 1) → covers w s ps ≡ true
once-covers w s [] l e = eq-eqb s (full w) (same-members (2 ^ w) s (full w) l (full-lt w) (λ a h. is (member s a) (e a h) ∙ sym (member-full w a h)))
  where
    is : (x : Bool) → digit x + 0 ≡ 1 → x ≡ true
    is true q = refl
    is false q = absurd (omega arith)
once-covers w s (p ∷ ps) l e =
    ap₂ ◌&&◌
    (none-empty w _ (λ a h. member-intersection w s (assignments p) a h ∙ meet a h))
    (once-covers w (union w s (assignments p)) ps (union-lt w s (assignments p))
    (λ a h. rw (member_union w s (assignments p) a h) (omega (arith, e a h, apart-or (member s a) (member (assignments p) a) (meet a h)))))
  where
    meet : (a : ℕ) → a < 2 ^ w → (member s a && member (assignments p) a) ≡ false
    meet a h = one_apart (member s a) (member (assignments p) a) (hits ps a) (e a h)
