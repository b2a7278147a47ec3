-- Rows that pass the test of equality are equal, and only they.
use mathlib.Core.Path.{◌≡◌, refl, ap, ap₂, ◌∙◌}
use mathlib.Core.Bool.{Bool, true, ◌&&◌, false≢true}
use mathlib.Core.List.{List, [], ◌∷◌}
use native.Mathlib.Omega.{arith}
use lib.Dec.{eqb}
use lib.IntN.{ℤ}
use lib.ListN.{length}
use borrow.Author.Tests.{eq-eqb, eqb-true}
use Rattle.conditions.specs.declared.condition.Condition.{Condition}
use Rattle.conditions.specs.Conditions.{number, of_number}
use Rattle.conditions.proofs.Laws.Below.{and_left, and_right, and-swap, three, five}
use Rattle.polyvalues.specs.declared.polyvalue.Pair.{Pair}
use Rattle.polyvalues.specs.declared.polyvalue.Polyvalue.{Polyvalue}
use Rattle.polyvalues.specs.Values.{equal}
use Rattle.polyvalues.specs.Pairs.{assignments}
use Rattle.polyvalues.specs.Polyvalues.{paired}
use Rattle.polyvalues.proofs.Laws.Values.{equal-refl, equal-true}
use Rattle.polyvalues.proofs.Laws.Holds.{same-pair}
use Rattle.polyvalues.specs.Operations.{same_rows, same_pair, same}
use Rattle.book.specs.declared.Record.{Record}
use Rattle.book.specs.declared.Item.{Item}
use Rattle.book.specs.declared.Open.{Open}
use Rattle.book.specs.Book.{no_record, no_open}
use Rattle.book.specs.SoundTest.{same_condition, same_polyvalue, same_item, zero_record, zero_open}

-- ---- equal rows

pub same-rows : {A : Type 0} (f : A → A → Bool) → ((x y : A) → f x y ≡ true → x ≡ y) → (xs ys : List A) → same_rows f xs ys ≡ true → xs ≡ ys
same-rows f g [] [] e = refl
same-rows f g [] (y ∷ ys) e = absurd (false≢true e)
same-rows f g (x ∷ xs) [] e = absurd (false≢true e)
same-rows f g (x ∷ xs) (y ∷ ys) e = ap₂ ◌∷◌ (g x y (and_left (f x y) _ e)) (same-rows f g xs ys (and_right (f x y) _ e))

pub same-pairs : (ps qs : List Pair) → same ps qs ≡ true → ps ≡ qs
same-pairs = same-rows same_pair (λ p q e. same-pair p q (equal-true p.value q.value (and_left _ _ e)) (eqb-true (assignments p) (assignments q) (and_right (equal p.value q.value) _ e)))

rows_same : {A : Type 0} (f : A → A → Bool) → ((x : A) → f x x ≡ true) → (xs : List A) → same_rows f xs xs ≡ true
rows_same f g [] = refl
rows_same f g (x ∷ xs) = ap₂ ◌&&◌ (g x) (rows_same f g xs)

same-condition : (c d : Condition) → same_condition c d ≡ true → c ≡ d
same-condition c d e = ap of_number (eqb-true (number c) (number d) e)

-- rows of pairs are compared as their values and their conditions are
pub same-paired : (vs us : List ℤ) (cs ds : List Condition) → length vs ≡ length cs → length us ≡ length ds
    → same (paired vs cs) (paired us ds) ≡ (same_rows equal vs us && same_rows same_condition cs ds)
same-paired [] [] [] [] e f = refl
same-paired [] [] [] (d ∷ ds) e f = absurd (omega arith)
same-paired [] us (c ∷ cs) ds e f = absurd (omega arith)
same-paired [] (u ∷ us) [] [] e f = absurd (omega arith)
same-paired [] (u ∷ us) [] (d ∷ ds) e f = refl
same-paired (v ∷ vs) us [] ds e f = absurd (omega arith)
same-paired (v ∷ vs) [] (c ∷ cs) [] e f = refl
same-paired (v ∷ vs) [] (c ∷ cs) (d ∷ ds) e f = absurd (omega arith)
same-paired (v ∷ vs) (u ∷ us) (c ∷ cs) [] e f = absurd (omega arith)
same-paired (v ∷ vs) (u ∷ us) (c ∷ cs) (d ∷ ds) e f =
    ap (λ (b : Bool). equal v u && same_condition c d && b) (same-paired vs us cs ds (omega arith) (omega arith))
    ∙ and-swap (equal v u) (same_condition c d) (same_rows equal vs us) (same_rows same_condition cs ds)

pub same-polyvalue : (q r : Polyvalue) → same_polyvalue q r ≡ true → q ≡ r
unfolding same_polyvalue
same-polyvalue q r e =
    let count = eqb-true q.count r.count (and_left (eqb q.count r.count) _ e) in
    let rows = and_right (eqb q.count r.count) _ e in
    let values = same-rows equal equal-true q.values r.values (and_left (same_rows equal q.values r.values) _ rows) in
    let conditions = same-rows same_condition same-condition q.conditions r.conditions (and_right (same_rows equal q.values r.values) _ rows) in
    λ k. record { count = count k; values = values k; conditions = conditions k }

pub polyvalue-same : (q r : Polyvalue) → q ≡ r → same_polyvalue q r ≡ true
unfolding same_polyvalue
polyvalue-same q r e =
    rw e (ap₂ ◌&&◌ (eq-eqb r.count r.count refl) (ap₂ ◌&&◌ (rows_same equal equal-refl r.values) (rows_same same_condition (λ c. eq-eqb (number c) (number c) refl) r.conditions)))

pub same_item-is : (x y : Item) → same_item x y ≡ true → x ≡ y
unfolding same_item
same_item-is x y e =
    let t = three (eqb x.district y.district) (same_polyvalue x.held y.held) (same_polyvalue x.pending y.pending) e in
    let district = eqb-true x.district y.district t.0 in
    let held = same-polyvalue x.held y.held t.1 in
    let pending = same-polyvalue x.pending y.pending t.2 in
    λ k. record { district = district k; held = held k; pending = pending k }

pub item-same : (x y : Item) → x ≡ y → same_item x y ≡ true
unfolding same_item
item-same x y e =
    rw e (ap₂ ◌&&◌ (ap₂ ◌&&◌ (eq-eqb y.district y.district refl) (polyvalue-same y.held y.held refl)) (polyvalue-same y.pending y.pending refl))

-- ---- rows of zeros

pub zero-record : (r : Record) → zero_record r ≡ true → r ≡ no_record
unfolding zero_record
zero-record r e =
    let phase = eqb-true r.phase 0 (and_left (eqb r.phase 0) _ e) in
    let number = eqb-true r.transaction.0 0 (and_right (eqb r.phase 0) _ e) in
    λ k. record { phase = phase k; transaction = record { 0 = number k } }

pub zero-open : (o : Open) → zero_open o ≡ true → o ≡ no_open
unfolding zero_open
zero-open o e =
    let t = five (eqb o.number.0 0) (eqb o.touched 0) (eqb o.ready 0) (eqb o.gave 0) (eqb o.decision 0) e in
    let number = eqb-true o.number.0 0 t.0 in
    let touched = eqb-true o.touched 0 t.1 in
    let ready = eqb-true o.ready 0 t.2 in
    let gave = eqb-true o.gave 0 t.3 in
    let decision = eqb-true o.decision 0 t.4 in
    λ k. record { number = record { 0 = number k }; touched = touched k; ready = ready k; gave = gave k; decision = decision k }
