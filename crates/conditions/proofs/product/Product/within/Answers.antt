-- No assignment is allowed outside the condition.
use borrow.Author.Rules.{rules}
use Rattle.conditions.specs.Places.{places}
use Rattle.conditions.proofs.Primes.{within-test}
use Rattle.conditions.proofs.product.Product.within.Goals as goal

pub returns : goal.returns
returns c = within-test places _ _ (search rules) c.by_tags-allowed.ensures
