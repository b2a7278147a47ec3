-- The two ways to reduce a condition differ where it depends on the place.
use mathlib.Core.Path.{sym, ap₂, ◌∙◌}
use mathlib.Core.Bool.{not}
use Prim.Native.Nat.{ℕ}
use lib.Dec.{eqb}
use Rattle.conditions.specs.Places.{places}
use Rattle.conditions.proofs.Laws.Conditions.{depends-reduced}
use Rattle.conditions.proofs.condition.Condition.depends.Goals as goal

pub returns : goal.returns
returns c =
    c.ne.ensures ∙ ap₂ (λ (x y : ℕ). not (eqb x y)) c.reduce.ensures c.reduce-2.ensures ∙ sym (depends-reduced places _ _)
