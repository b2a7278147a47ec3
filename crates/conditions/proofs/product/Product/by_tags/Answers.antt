use mathlib.Core.Path.{◌≡◌, sym, ap, ◌∙◌}
use Prim.Native.Nat.{ℕ, ◌%◌}
use native.Mathlib.Nat.{div-one}
use native.Mathlib.Numerals.{add-one}
use native.Mathlib.Omega.{arith}
use Rattle.conditions.specs.Places.{places}
use Rattle.conditions.specs.Products.{tag_at, allowed}
use Rattle.conditions.proofs.Laws.Conditions.{always-full}
use Rattle.conditions.proofs.Laws.Products.{tags-after, allows-none, allows-more}
use Rattle.conditions.proofs.product.Product.by_tags.Goals as goal

pub loop-place-init : goal.loop-place-init
loop-place-init c = (always-full ∙ allows-none places _, sym (div-one _))

pub loop-place-preserved : goal.loop-place-preserved
unfolding tag_at
loop-place-preserved c =
    let at-loop = c.loop-place in (
      rw add-one (allows-more places _ _ at-loop.invariant.0 (c.of.ensures ∙ ap (λ (q : ℕ). q % 3) at-loop.invariant.1) c.tagged-set.ensures),
      tags-after _ _ at-loop.invariant.1,
    )

pub returns : goal.returns
unfolding allowed
returns c =
    let last : c.loop-place.place ≡ places = omega arith in
    rw last at c.loop-place.invariant.0
