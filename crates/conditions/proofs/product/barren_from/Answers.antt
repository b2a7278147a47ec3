use mathlib.Core.Path.{sym, ◌∙◌}
use Prim.Native.Nat.{◌-◌}
use native.Mathlib.Nat.{mod-lt}
use native.Mathlib.Omega.{arith}
use Rattle.conditions.specs.Places.{places}
use Rattle.conditions.proofs.Skipping.{scale-some, tag-below, walk-on, walk-stops}
use Rattle.conditions.proofs.product.barren_from.Goals as goal

pub of-tag-requires : goal.of-tag-requires
of-tag-requires c = tag-below places _ _ (c.loop-i.i - 1) (omega arith) c.loop-i.invariant

pub nonzero_div-rest : goal.nonzero_div-rest
nonzero_div-rest c = scale-some places _ _ (c.loop-i.i - 1) (omega arith) c.loop-i.invariant

pub nonzero_rem-rest-in-loop-i : goal.nonzero_rem-rest-in-loop-i
nonzero_rem-rest-in-loop-i c = scale-some places _ _ (c.loop-i.i - 1) (omega arith) c.loop-i.invariant

pub overflow_sub-result : goal.overflow_sub-result
overflow_sub-result c =
    let at-loop = c.loop-i in
    omega (arith, mod-lt at-loop.rest (scale-some places _ _ (at-loop.i - 1) (omega arith) at-loop.invariant))

pub returns-then-is_barren : goal.returns-then-is_barren
returns-then-is_barren c =
    let at-loop = c.loop-i in
    let some = scale-some places _ _ (at-loop.i - 1) (omega arith) at-loop.invariant in (
      omega (arith, mod-lt at-loop.rest some),
      walk-stops places _ _ (at-loop.i - 1) (omega arith) at-loop.invariant (λ q t. c.is_barren.ensures c.if-is_barren.true q (t ∙ sym c.of-tag.ensures)),
    )

pub loop-i-preserved : goal.loop-i-preserved
loop-i-preserved c =
    let at-loop = c.loop-i in
    walk-on places _ _ _ (omega arith) at-loop.invariant (λ q t. c.narrowed-set.ensures q (t ∙ sym c.of-tag.ensures))
