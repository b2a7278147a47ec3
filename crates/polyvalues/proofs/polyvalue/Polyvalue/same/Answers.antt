-- The values in use are the same, and then the conditions.
use mathlib.Core.Path.{sym, ap, ap₂, ◌∙◌}
use mathlib.Core.Bool.{Bool, ◌&&◌}
use mathlib.Core.List.{List, map}
use lib.Dec.{eqb}
use lib.IntN.{ℤ}
use lib.Pointwise.{pointwise}
use Rattle.std.specs.Ordering.{int_eq}
use Rattle.conditions.specs.declared.condition.Condition.{Condition}
use Rattle.conditions.specs.Conditions.{number}
use Rattle.polyvalues.specs.declared.polyvalue.Pair.{Pair}
use Rattle.polyvalues.specs.Polyvalues.{in_use}
use Rattle.polyvalues.proofs.Known.{Held, all-rows}
use Rattle.polyvalues.proofs.Columns.{values-in_use, conditions-in_use}
use Rattle.polyvalues.proofs.Comparing.{columns-same}
use Rattle.polyvalues.proofs.polyvalue.Polyvalue.same.Goals as goal

same_conditions : List Pair → List Pair → Bool
same_conditions ps qs = pointwise (λ c d. eqb (number c) (number d)) (map (λ p. p.condition) ps) (map (λ p. p.condition) qs)

pub returns-then-eq : goal.returns-then-eq
unfolding same_conditions
returns-then-eq c =
    let held : Held c.args.self = record { values = _; own = c.well_formed.0 } in
    let other : Held c.args.other = record { values = _; own = c.well_formed.1.0 } in
    let values = c.eq.ensures ∙ ap₂ (λ (xs ys : List ℤ). pointwise int_eq xs ys) (values-in_use (all-rows held) c.len.ensures.value) (values-in_use (all-rows other) c.len-2.ensures.value) in
    c.eq-then-eq.ensures
    ∙ ap₂ (λ (xs ys : List Condition). pointwise (λ c d. eqb (number c) (number d)) xs ys) (conditions-in_use (all-rows held) c.len-then-eq.ensures.value) (conditions-in_use (all-rows other) c.len-then-eq-2.ensures.value)
    ∙ ap (λ (b : Bool). b && same_conditions (in_use c.args.self) (in_use c.args.other)) (sym c.if-eq.true ∙ values) ∙ columns-same (in_use c.args.self) (in_use c.args.other)

pub returns-else-eq : goal.returns-else-eq
unfolding same_conditions
returns-else-eq c =
    let held : Held c.args.self = record { values = _; own = c.well_formed.0 } in
    let other : Held c.args.other = record { values = _; own = c.well_formed.1.0 } in
    let values = c.eq.ensures ∙ ap₂ (λ (xs ys : List ℤ). pointwise int_eq xs ys) (values-in_use (all-rows held) c.len.ensures.value) (values-in_use (all-rows other) c.len-2.ensures.value) in
    c.if-eq.false
    ∙ ap (λ (b : Bool). b && same_conditions (in_use c.args.self) (in_use c.args.other)) (sym c.if-eq.false ∙ values) ∙ columns-same (in_use c.args.self) (in_use c.args.other)
