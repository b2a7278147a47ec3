-- Two lists of pairs side by side, row by row.
use mathlib.Core.Path.{◌≡◌, refl, sym, ap, ap₂, ◌∙◌}
use mathlib.Core.Bool.{Bool, true, false, not, ◌&&◌, ◌||◌, false≢true, true≢false}
use mathlib.Core.List.{List, [], ◌∷◌, ◌++◌, map, append-nil}
use Prim.Native.Nat.{ℕ, suc, ◌+◌, ◌<◌}
use native.Mathlib.Numerals.{add-one}
use native.Mathlib.Nat.{add-zero}
use lib.Dec.{eqb}
use lib.IntN.{ℤ}
use lib.Pointwise.{pointwise}
use Rattle.std.specs.Ordering.{int_eq}
use Rattle.std.proofs.lemmas.Bool.Decides.{Decides-int_eq}
use lib.ListN.{length, get_or, drop}
use mir.Val.{bool_byte}
use Rattle.conditions.specs.Sets.{digit}
use Rattle.conditions.specs.Conditions.{number}
use Rattle.conditions.proofs.Laws.Below.{and_right, and-swap, by_cases}
use Rattle.polyvalues.specs.declared.polyvalue.Pair.{Pair}
use Rattle.polyvalues.specs.declared.polyvalue.Polyvalue.{Polyvalue}
use Rattle.polyvalues.specs.Values.{equal}
use Rattle.polyvalues.specs.Pairs.{no_pair, assignments}
use Rattle.polyvalues.specs.Polyvalues.{rows_of, in_use, packed}
use Rattle.polyvalues.specs.Operations.{same_pair, occurs, different, together, same}
use Rattle.polyvalues.proofs.Laws.Values.{equal-refl, not_equal}
use Rattle.polyvalues.proofs.Laws.Room.{occurs-append}
use Rattle.polyvalues.proofs.Inserting.{in_use-row}
use Rattle.polyvalues.proofs.Joining.{packed-in_use}

-- ---- the same pairs

same_length : (ps qs : List Pair) → same ps qs ≡ true → length ps ≡ length qs
same_length [] [] e = refl
same_length [] (q ∷ qs) e = absurd (false≢true e)
same_length (p ∷ ps) [] e = absurd (false≢true e)
same_length (p ∷ ps) (q ∷ qs) e = ap suc (same_length ps qs (and_right (equal p.value q.value && eqb (assignments p) (assignments q)) (same ps qs) e))

pub same_not : (ps qs : List Pair) → (length ps ≡ length qs → ⊥) → false ≡ same ps qs
same_not ps qs n = by_cases (same ps qs) (λ e. absurd (n (same_length ps qs e))) sym

equal-is : (x y : ℤ) → int_eq x y ≡ equal x y
equal-is x y =
    by_cases (int_eq x y)
    (λ e. let q : x ≡ y = (Decides-int_eq x y).0 e in e ∙ sym (ap (equal x) (sym q) ∙ equal-refl x))
    (λ e. e ∙ sym (not_equal x y (λ q. true≢false (sym ((Decides-int_eq x y).1 q) ∙ e))))

-- two pairs as the derive compares them
pair-same : (p q : Pair) → (int_eq p.value q.value && eqb (assignments p) (assignments q)) ≡ same_pair p q
pair-same p q = ap (λ (e : Bool). e && eqb (assignments p) (assignments q)) (equal-is p.value q.value)

-- their values are the same, and their conditions
pub columns-same : (ps qs : List Pair)
    → (pointwise int_eq (map (λ p. p.value) ps) (map (λ p. p.value) qs) && pointwise (λ c d. eqb (number c) (number d)) (map (λ p. p.condition) ps) (map (λ p. p.condition) qs)) ≡ same ps qs
columns-same [] [] = refl
columns-same [] (q ∷ qs) = refl
columns-same (p ∷ ps) [] = refl
columns-same (p ∷ ps) (q ∷ qs) =
    and-swap (int_eq p.value q.value) _ (eqb (assignments p) (assignments q)) _ ∙ ap₂ ◌&&◌ (pair-same p q) (columns-same ps qs)

-- ---- values that occur

-- a value adds nothing where it occurs later, or in the other list, and else 1
pub adds-is : (v : ℤ) (ps qs : List Pair) {x y : Bool} → occurs v ps ≡ x → occurs v qs ≡ y → digit (not (x || y)) ≡ digit (not (occurs v (ps ++ qs)))
adds-is v ps qs e f = rw (occurs-append v ps qs, e, f)

-- of the value of row i
pub adds-row : (q o : Polyvalue) (i : ℕ) {row : Pair} → row ≡ get_or (rows_of q) i no_pair → i < length (in_use q) → {x y : Bool} → x ≡ occurs row.value (drop (i + 1) (in_use q)) → y ≡ occurs row.value (in_use o)
    → digit (not (x || y)) ≡ digit (not (occurs (get_or (in_use q) i no_pair).value (drop (suc i) (in_use q) ++ in_use o)))
adds-row q o i {row} at h e f =
    let same : get_or (in_use q) i no_pair ≡ row = in_use-row q i at h in
    adds-is (get_or (in_use q) i no_pair).value (drop (suc i) (in_use q)) (in_use o)
    (ap (λ (p : Pair). occurs p.value (drop (suc i) (in_use q))) same ∙ sym (rw add-one at e))
    (ap (λ (p : Pair). occurs p.value (in_use o)) same ∙ sym f)

pub byte-digit : (b : Bool) → bool_byte b ≡ digit b
byte-digit true = refl
byte-digit false = refl

-- ---- values together

-- beside no pairs, a list has its own values
pub together-none : (ps : List Pair) (n : Polyvalue) (r : ℕ) → n ≡ packed [] → r + different (in_use n) ≡ together ps (in_use n) → r ≡ different ps
unfolding different together
together-none ps n r e f =
    let none : in_use n ≡ [] = packed-in_use [] e in
    sym (add-zero r) ∙ ap (λ (l : List Pair). r + different l) (sym none) ∙ f ∙ ap (λ (l : List Pair). different (ps ++ l)) none ∙ ap different (append-nil ps)
