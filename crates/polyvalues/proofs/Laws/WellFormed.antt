-- Well-formed polyvalues: the test agrees with the proposition, and what is made is well formed.
use mathlib.Core.Path.{◌≡◌, refl, ap}
use mathlib.Core.Bool.{Bool, true, false, cond}
use mathlib.Core.List.{List, [], ◌∷◌}
use Prim.Native.Nat.{ℕ, ◌^◌, ◌≤◌, ◌<◌}
use native.Mathlib.Omega.{arith}
use lib.Dec.{eqb, leb}
use lib.IntN.{ℤ}
use lib.ListN.{length}
use lib.Pow.{pow_pos}
use borrow.Author.Tests.{eq-eqb, eqb-true, le-leb, leb-true}
use Rattle.conditions.specs.Below.{all}
use Rattle.conditions.specs.Sets.{member}
use Rattle.conditions.specs.Places.{with_place}
use Rattle.conditions.proofs.Laws.Below.{and_left, and_right, by_cases, six, all-at, all_of}
use Rattle.polyvalues.specs.declared.polyvalue.Pair.{Pair}
use Rattle.polyvalues.specs.Values.{in_range}
use Rattle.polyvalues.specs.Pairs.{applies, at, hits, certain}
use Rattle.polyvalues.specs.Polyvalues.{each, rises, proper, most_pairs, Complete, WellFormed, well_formed}
use Rattle.polyvalues.specs.Simplify.{canon}
use Rattle.polyvalues.specs.Operations.{reduce, select, together}
use Rattle.polyvalues.proofs.Laws.Canon.{canon-complete, canon-values, certain-canon}
use Rattle.polyvalues.proofs.Laws.Operations.{reduce-canon, reduce-count, select-canon}
use Rattle.polyvalues.proofs.Laws.Room.{select-count}

-- ---- the test

pub well_formed-true : (w : ℕ) (ps : List Pair) → WellFormed w ps → well_formed w ps ≡ true
unfolding well_formed
well_formed-true w ps f =
    rw (
      f.complete.simple.rising,
      f.complete.simple.conditions,
      all_of (2 ^ w) (λ a. eqb (hits ps a) 1) (λ a h. eq-eqb (hits ps a) 1 (f.complete.once a h)),
      le-leb 1 (length ps) f.some,
      le-leb (length ps) most_pairs f.few,
      f.values,
    )

pub true-well_formed : (w : ℕ) (ps : List Pair) → well_formed w ps ≡ true → WellFormed w ps
unfolding well_formed
true-well_formed w ps e =
    let f = six (rises ps) (each (proper w) ps) (all (2 ^ w) (λ a. eqb (hits ps a) 1)) (leb 1 (length ps)) (leb (length ps) most_pairs) _ e in
    record {
      complete = record {
        simple = record { rising = f.0; conditions = f.1 };
        once = λ a h. eqb-true (hits ps a) 1 (all-at (2 ^ w) (λ a. eqb (hits ps a) 1) f.2 a h);
      };
      some = leb-true 1 (length ps) f.3;
      few = leb-true (length ps) most_pairs f.4;
      values = f.5;
    }

-- ---- values

-- the value under an assignment is in range
pub at-range : (ps : List Pair) (a : ℕ) → each (λ p. in_range p.value) ps ≡ true → in_range (at ps a) ≡ true
unfolding in_range
at-range [] a e = refl
at-range (p ∷ ps) a e =
    by_cases (applies p a)
    (λ t. rw t (and_left (in_range p.value) _ e))
    (λ t. rw t (at-range ps a (and_right (in_range p.value) _ e)))

-- ---- what is made is well formed

pub complete-some : (w : ℕ) (ps : List Pair) → Complete w ps → 1 ≤ length ps
complete-some w [] c = absurd (omega (arith, c.once 0 (pow_pos w)))
complete-some w (p ∷ ps) c = omega arith

pub canon-well_formed : (w : ℕ) (f : ℕ → ℤ) → ((a : ℕ) → a < 2 ^ w → in_range (f a) ≡ true) → length (canon w f) ≤ most_pairs → WellFormed w (canon w f)
canon-well_formed w f range few =
    record { complete = canon-complete w f; some = complete-some w (canon w f) (canon-complete w f); few = few; values = canon-values w f range }

pub certain-well_formed : (w : ℕ) (v : ℤ) → in_range v ≡ true → WellFormed w (certain w v)
unfolding certain
certain-well_formed w v e =
    rw (certain-canon w v) (canon-well_formed w (λ a. v) (λ a h. e) (omega (arith, ap length (certain-canon w v))))

pub reduce-well_formed : (w i : ℕ) (b : Bool) (ps : List Pair) → WellFormed w ps → WellFormed w (reduce w i b ps)
reduce-well_formed w i b ps f =
    let few : length (reduce w i b ps) ≤ most_pairs = omega (arith, reduce-count w i b ps) in
    rw (reduce-canon w i b ps f.complete)
    (canon-well_formed w _ (λ a h. at-range ps (with_place w a i b) f.values) (rw (reduce-canon w i b ps f.complete) at few))

pub select-well_formed : (w i : ℕ) (done gone : List Pair) → WellFormed w done → WellFormed w gone → together done gone ≤ most_pairs → WellFormed w (select w i done gone)
select-well_formed w i done gone d g h =
    let few : length (select w i done gone) ≤ most_pairs = omega (arith, select-count w i done gone) in
    let form = select-canon w i done gone d.complete g.complete in
    rw form (canon-well_formed w _ (λ a h. either (member a i) a) (rw form at few))
  where
    either : (x : Bool) (a : ℕ) → in_range (cond x (at done a) (at gone a)) ≡ true
    either true a = at-range done a d.values
    either false a = at-range gone a g.values
