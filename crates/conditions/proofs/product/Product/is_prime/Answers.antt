use borrow.Author.Rules.{rules}
use borrow.Author.Tests.{tests}
use mathlib.Core.Path.{refl, sym, ap₂, ◌∙◌}
use mathlib.Core.Bool.{◌&&◌}
use native.Mathlib.Omega.{arith}
use Rattle.std.proofs.lemmas.Iterator.{YieldsList-from_range}
use Rattle.std.proofs.lemmas.Iterator.Search.{all_from_yields_List}
use Rattle.conditions.specs.Places.{places}
use Rattle.conditions.specs.Products.{needed, prime}
use Rattle.conditions.proofs.Lists.{all_range}
use Rattle.conditions.proofs.Primes.{not_within}
use Rattle.conditions.proofs.product.Product.is_prime.Goals as goal

pub returns-then-within : goal.returns-then-within
unfolding prime
returns-then-within c =
    let each = all_from_yields_List (needed places c.args.self.0 c.args.c.0) _ _ _ c.all.ensures.ran (YieldsList-from_range 0 places places refl (omega arith)) (λ x b q k. search (rules, tests)) in
    ap₂ ◌&&◌ (sym c.if-within.true ∙ c.within.ensures) (each ∙ all_range (needed places c.args.self.0 c.args.c.0) places)

pub returns-else-within : goal.returns-else-within
returns-else-within c = c.if-within.false ∙ not_within places _ _ (sym c.within.ensures ∙ c.if-within.false)
