-- How many different values lists have together: what selecting needs at most.
use mathlib.Core.Path.{◌≡◌, refl, sym, ap₂, ◌∙◌}
use mathlib.Core.Bool.{Bool, true, false, not, ◌&&◌, ◌||◌, cond, true≢false, false≢true, or-true, or_assoc}
use mathlib.Core.List.{List, [], ◌∷◌, ◌++◌}
use Prim.Native.Nat.{ℕ, ◌+◌, ◌≤◌}
use native.Mathlib.Omega.{arith}
use lib.IntN.{ℤ}
use lib.ListN.{length}
use Rattle.conditions.specs.Sets.{digit}
use Rattle.conditions.specs.Conditions.{reduced, selected}
use Rattle.conditions.proofs.Laws.Below.{and_left, and_right, by_cases}
use Rattle.polyvalues.specs.declared.polyvalue.Pair.{Pair}
use Rattle.polyvalues.specs.Values.{equal}
use Rattle.polyvalues.specs.Polyvalues.{each, rises_from, rises}
use Rattle.polyvalues.specs.Simplify.{canon_over, canon}
use Rattle.polyvalues.specs.Operations.{changed, reduce, select, occurs, different, together}
use Rattle.polyvalues.proofs.Laws.Values.{equal-refl, equal-true, equal-false, not_equal, below-not}
use Rattle.polyvalues.proofs.Laws.Holds.{occurs-holds, above-occurs, rises-tail}
use Rattle.polyvalues.proofs.Laws.Simplify.{each-simplified}
use Rattle.polyvalues.proofs.Laws.Canon.{holds-canon, simple-over, each_over}
use Rattle.polyvalues.proofs.Laws.Operations.{each_append, simple-select}

-- ---- a list without one of its values

abbrev without : ℤ → List Pair → List Pair
without v [] = []
without v (p ∷ ps) = let rest : List Pair = without v ps in cond (equal v p.value) rest (p ∷ rest)

occurs-without : (u v : ℤ) (ps : List Pair) → equal u v ≡ false → occurs u (without v ps) ≡ occurs u ps
occurs-without u v [] e = refl
occurs-without u v (p ∷ ps) e =
    by_cases (equal v p.value)
    (λ t. rw (t, ← (equal-true v p.value t), e) (occurs-without u v ps e))
    (λ t. rw (t, occurs-without u v ps e))

-- its values are one fewer, if the value was among them
different-without : (v : ℤ) (ps : List Pair) → different ps ≡ digit (occurs v ps) + different (without v ps)
unfolding different
different-without v [] = refl
different-without v (p ∷ ps) =
    by_cases (equal v p.value)
    (λ t. rw (t, ← (equal-true v p.value t), different-without v ps) (all (occurs v ps) (different (without v ps))))
    (λ t. rw (t, occurs-without p.value v ps (not_equal p.value v (λ q. equal-false v p.value t (sym q))), different-without v ps) (omega arith))
  where
    all : (o : Bool) (n : ℕ) → digit (not o) + (digit o + n) ≡ 1 + n
    all true n = omega arith
    all false n = omega arith

-- a list whose values are all among another's has no more of them
pub different-le : (ps qs : List Pair) → ((u : ℤ) → occurs u ps ≡ true → occurs u qs ≡ true) → different ps ≤ different qs
unfolding different
different-le [] qs e = omega arith
different-le (p ∷ ps) qs e =
    by_cases (occurs p.value ps)
    (λ t. rw t (omega (arith, different-le ps qs (λ u o. e u (rw o (or-true (equal u p.value)))))))
    (λ t. let fewer : different ps ≤ different (without p.value qs) = different-le ps (without p.value qs)
    (λ u o. occurs-without u p.value qs (not_equal u p.value (λ q. true≢false (sym o ∙ rw q t))) ∙ e u (rw o (or-true (equal u p.value)))) in
    let one : different qs ≡ 1 + different (without p.value qs) = rw (e p.value (rw (equal-refl p.value))) at (different-without p.value qs) in
    rw t (omega arith))

-- ---- values that rise are all different

rises-once : (v : ℤ) (ps : List Pair) → rises_from v ps ≡ true → occurs v ps ≡ false
rises-once v ps r = above-occurs ps v v r (below-not v)

pub different-rising : (ps : List Pair) → rises ps ≡ true → different ps ≡ length ps
unfolding different
different-rising [] r = refl
different-rising (p ∷ ps) r = rw (rises-once p.value ps r, different-rising ps (rises-tail p.value ps r)) (omega arith)

-- ---- the values of two lists

pub occurs-append : (u : ℤ) (ps qs : List Pair) → occurs u (ps ++ qs) ≡ (occurs u ps || occurs u qs)
occurs-append u [] qs = refl
occurs-append u (p ∷ ps) qs = rw (occurs-append u ps qs) (sym (or_assoc (equal u p.value) (occurs u ps) (occurs u qs)))

pub occurs-first : (u : ℤ) (ps qs : List Pair) → occurs u ps ≡ true → occurs u (ps ++ qs) ≡ true
occurs-first u ps qs e = rw (occurs-append u ps qs, e)

pub occurs-second : (u : ℤ) (ps qs : List Pair) → occurs u qs ≡ true → occurs u (ps ++ qs) ≡ true
occurs-second u ps qs e = rw (occurs-append u ps qs, e) (or-true (occurs u ps))

-- where each list has a value once: those of the one that are not in the other, and the other's
abbrev pub others : List Pair → List Pair → ℕ
others [] qs = 0
others (p ∷ ps) qs = digit (not (occurs p.value qs)) + others ps qs

pub together-rising : (ps qs : List Pair) → rises ps ≡ true → rises qs ≡ true → together ps qs ≡ others ps qs + length qs
unfolding together different
together-rising [] qs r s = omega (arith, different-rising qs s)
together-rising (p ∷ ps) qs r s =
    rw (occurs-append p.value ps qs, rises-once p.value ps r) (omega (arith, together-rising ps qs (rises-tail p.value ps r) s))

-- ---- reducing and selecting

-- a test of the values that a list has
each-occurs : (f : ℤ → Bool) (ps : List Pair) → each (λ p. f p.value) ps ≡ true → (u : ℤ) → occurs u ps ≡ true → f u ≡ true
each-occurs f [] e u o = absurd (false≢true o)
each-occurs f (p ∷ ps) e u o =
    by_cases (equal u p.value)
    (λ t. rw (equal-true u p.value t) (and_left (f p.value) _ e))
    (λ t. each-occurs f ps (and_right (f p.value) _ e) u (rw t at o))

-- pairs that rise, with values of another list, are no more than it has different ones
rising_le : (ps qs : List Pair) → rises ps ≡ true → each (λ p. occurs p.value qs) ps ≡ true → length ps ≤ different qs
rising_le ps qs r e = omega (arith, different-rising ps r, different-le ps qs (each-occurs (λ u. occurs u qs) ps e))

-- a change of the conditions leaves the values
values-changed : (f : ℤ → Bool) (g : ℕ → ℕ) (ps : List Pair) → ((u : ℤ) → occurs u ps ≡ true → f u ≡ true) → each (λ p. f p.value) (changed g ps) ≡ true
values-changed f g [] e = refl
values-changed f g (p ∷ ps) e =
    ap₂ ◌&&◌ (e p.value (rw (equal-refl p.value))) (values-changed f g ps (λ u o. e u (rw o (or-true (equal u p.value)))))

-- reducing adds no value
pub occurs-reduce : (w i : ℕ) (b : Bool) (ps : List Pair) (u : ℤ) → occurs u (reduce w i b ps) ≡ true → occurs u ps ≡ true
unfolding reduce
occurs-reduce w i b ps =
    each-occurs (λ u. occurs u ps) (reduce w i b ps)
    (each-simplified w (λ p. occurs p.value ps) (λ p q e f. e) _ (values-changed (λ u. occurs u ps) (λ c. reduced w c i b) ps (λ u o. o)))

pub select-count : (w i : ℕ) (done gone : List Pair) → length (select w i done gone) ≤ together done gone
unfolding select together
select-count w i done gone =
    rising_le (select w i done gone) (done ++ gone) (simple-select w i done gone).rising
    (each-simplified w (λ p. occurs p.value (done ++ gone)) (λ p q e f. e) _
    (each_append (λ p. occurs p.value (done ++ gone)) (changed (λ c. selected w i c 0) done) _
    (values-changed (λ u. occurs u (done ++ gone)) (λ c. selected w i c 0) done (λ u. occurs-first u done gone))
    (values-changed (λ u. occurs u (done ++ gone)) (λ c. selected w i 0 c) gone (λ u. occurs-second u done gone))))

-- ---- a table of values

-- the pairs over some assignments are no more than the different values that all of them have, together with those of another list
pub over-count : (w : ℕ) (f : ℕ → ℤ) (s : ℕ) (qs : List Pair) → length (canon_over w f s) ≤ together qs (canon w f)
unfolding together
over-count w f s qs =
    rising_le (canon_over w f s) (qs ++ canon w f) (simple-over w f s).rising
    (each_over w f s (λ u. occurs u (qs ++ canon w f))
    (λ a h. occurs-second (f a) qs (canon w f) (occurs-holds (canon w f) a (f a) (holds-canon w f a (f a) h ∙ equal-refl (f a)))))
