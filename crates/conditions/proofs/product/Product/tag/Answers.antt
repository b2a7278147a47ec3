-- A digit to the base 3.
use mathlib.Core.Path.{ap, ◌∙◌}
use Prim.Native.Nat.{ℕ, ◌/◌, ◌%◌}
use native.Mathlib.Nat.{one-le-pow, zero-lt-suc}
use native.Mathlib.Omega.{arith}
use Rattle.conditions.specs.Products.{tag_at}
use Rattle.conditions.proofs.product.Product.tag.Goals as goal

pub nonzero_div-self : goal.nonzero_div-self
nonzero_div-self c = omega (arith, c.power.ensures, one-le-pow c.args.i 3 (zero-lt-suc 2))

pub returns : goal.returns
unfolding tag_at
returns c = c.of.ensures ∙ ap (λ (q : ℕ). c.args.self.0 / q % 3) c.power.ensures
