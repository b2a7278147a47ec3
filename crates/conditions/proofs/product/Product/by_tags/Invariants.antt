-- The loop's invariant: the set is what the tags before the place allow, and the rest holds the others.
use mathlib.Core.Path.{◌≡◌}
use Prim.Native.Nat.{◌/◌, ◌^◌}
use Rattle.conditions.specs.Sets.{set_of}
use Rattle.conditions.specs.Places.{places}
use Rattle.conditions.specs.Products.{allows}
use Rattle.conditions.proofs.product.Product.by_tags.Given as goal

abbrev pub invariant-loop-place : goal.invariant-loop-place
invariant-loop-place l = (l.set.0 ≡ set_of (2 ^ places) (allows l.place l.initial.rest)) × (l.rest ≡ l.initial.rest / 3 ^ l.place)
