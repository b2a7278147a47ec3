-- What holding a polyvalue tells of it: it has all its rows, and its conditions are sets of assignments.
use mathlib.Core.Path.{◌≡◌, refl, sym, ap, ap₂, ◌∙◌, subst⁻¹}
use mathlib.Core.Bool.{Bool, true, ◌&&◌}
use mathlib.Core.List.{List, [], ◌∷◌}
use Prim.Native.Nat.{ℕ, zero, suc, ◌<◌, ◌^◌}
use native.Mathlib.Omega.{arith}
use denote.Array.{each as elements}
use denote.Shadow.{shadow}
use denote.Signed.{SInt}
use mir.Syntax.{w16}
use lib.IntN.{ℤ, pos}
use lib.ListN.{length, get_or, take}
use mir.Val.{Val, SFits}
use Rattle.polyvalues.specs.declared.polyvalue.Pair.{Pair}
use Rattle.polyvalues.specs.declared.polyvalue.Polyvalue.{Polyvalue}
use borrow.Author.Tests.{lt-ltb, ltb-true}
use Rattle.conditions.specs.declared.condition.Condition.{Condition}
use Rattle.conditions.specs.Places.{places}
use Rattle.conditions.specs.Conditions.{number}
use Rattle.conditions.proofs.Laws.Below.{and_left, and_right}
use Rattle.polyvalues.specs.Pairs.{no_pair}
use Rattle.polyvalues.specs.Polyvalues.{each, of_places, most_pairs, paired, rows_of, in_use, AllRows}
use Rattle.conditions.specs.contracts.condition.Condition as TCondition
use Rattle.polyvalues.proofs.Laws.Paired.{rows_long, paired_at}
use Rattle.polyvalues.specs.contracts.polyvalue.Polyvalue as TPolyvalue

-- q is a value that code holds
pub record Held (q : Polyvalue) : Type 0 where
  pub values : List Val
  pub own : shadow ((TPolyvalue.the_field).row.own_val ((TPolyvalue.the_field).into q) values)

pub all-rows : {q : Polyvalue} → Held q → AllRows q
all-rows {q} h = record { values = h.own.1.1.1.0.1.0.1; conditions = h.own.1.1.1.1.0.1.0.1 }

pub held-long : {q : Polyvalue} → Held q → length (rows_of q) ≡ most_pairs
held-long h = rows_long (all-rows h)

-- each value is one of 16 bits
fits-at : (vs : List ℤ) (us : List Val) → shadow (elements ℤ (SInt w16).own_val vs us) → (i : ℕ) → SFits w16 (get_or vs i (pos 0))
fits-at [] us s i = record { sfits = omega arith }
fits-at (v ∷ vs) [] s i = absurd s
fits-at (v ∷ vs) (u ∷ us) s zero = record { sfits = s.0.1 }
fits-at (v ∷ vs) (u ∷ us) s (suc i) = fits-at vs us s.1 i

pub value-fits : {q : Polyvalue} → Held q → (i : ℕ) → SFits w16 (get_or q.values i (pos 0))
value-fits {q} h = fits-at q.values h.own.1.1.1.0.0 h.own.1.1.1.0.1.1

pub row-fits : {q : Polyvalue} → Held q → (i : ℕ) {p : Pair} → p ≡ get_or (rows_of q) i no_pair → SFits w16 p.value
row-fits {q} h i e =
    let all : AllRows q = all-rows h in
    subst⁻¹ (λ (p : Pair). SFits w16 p.value) (e ∙ paired_at q.values q.conditions i (all.values ∙ sym all.conditions)) (value-fits h i)

-- each condition is a set of assignments
rows-of_places : (vs : List ℤ) (cs : List Condition) (us : List Val) → shadow (elements Condition (TCondition.the_row).own_val cs us)
    → each (of_places places) (paired vs cs) ≡ true
rows-of_places [] cs us s = refl
rows-of_places (v ∷ vs) [] us s = refl
rows-of_places (v ∷ vs) (c ∷ cs) [] s = absurd s
rows-of_places (v ∷ vs) (c ∷ cs) (u ∷ us) s = ap₂ ◌&&◌ (lt-ltb c.0 _ s.0.1.1.0.1) (rows-of_places vs cs us s.1)

each_take : (f : Pair → Bool) (n : ℕ) (ps : List Pair) → each f ps ≡ true → each f (take n ps) ≡ true
each_take f zero ps e = refl
each_take f (suc n) [] e = refl
each_take f (suc n) (p ∷ ps) e = ap₂ ◌&&◌ (and_left (f p) _ e) (each_take f n ps (and_right (f p) _ e))

pub conditions-of_places : {q : Polyvalue} → Held q → each (of_places places) (in_use q) ≡ true
unfolding in_use
conditions-of_places {q} h = each_take (of_places places) q.count (rows_of q) (rows-of_places q.values q.conditions h.own.1.1.1.1.0.0 h.own.1.1.1.1.0.1.1)

each_at : (f : Pair → Bool) (ps : List Pair) (i : ℕ) → f no_pair ≡ true → each f ps ≡ true → f (get_or ps i no_pair) ≡ true
each_at f [] i z e = z
each_at f (p ∷ ps) zero z e = and_left (f p) _ e
each_at f (p ∷ ps) (suc i) z e = each_at f ps i z (and_right (f p) _ e)

pub row-of_places : {q : Polyvalue} → Held q → (i : ℕ) {p : Pair} → p ≡ get_or (rows_of q) i no_pair → number p.condition < 2 ^ 2 ^ places
row-of_places {q} h i {p} e =
    ltb-true (number p.condition) (2 ^ 2 ^ places)
    (ap (of_places places) e ∙ each_at (of_places places) (rows_of q) i refl (rows-of_places q.values q.conditions h.own.1.1.1.1.0.0 h.own.1.1.1.1.0.1.1))
