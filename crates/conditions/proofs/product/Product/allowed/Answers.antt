-- The table is computed from its rule, and compared; digits past the last place say nothing.
use mathlib.Core.Path.{◌∙◌}
use native.Mathlib.Nat.{mod-lt, zero-lt-suc}
use Prim.Native.Nat.{◌%◌, ◌^◌}
use Rattle.conditions.specs.Places.{places}
use Rattle.conditions.specs.Below.{all}
use Rattle.conditions.specs.Sets.{odd, member, set_of}
use Rattle.conditions.specs.Products.{tag_at, allows, allowed}
use Rattle.conditions.proofs.Tabulated.{entry}
use Rattle.conditions.proofs.Laws.Products.{allowed-mod}
use Rattle.conditions.proofs.product.Product.allowed.Goals as goal

pub returns : goal.returns
unfolding allowed set_of allows all tag_at member odd
returns c = entry (allowed places) (3 ^ places) (c.args.self.0 % 3 ^ places) (mod-lt c.args.self.0 (zero-lt-suc 728)) ∙ allowed-mod places c.args.self.0
