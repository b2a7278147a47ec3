-- The tags, or the star where there are none.
use Rattle.conditions.specs.Places.{places}
use Rattle.conditions.proofs.Putting.{product-put}
use Rattle.conditions.proofs.text.Line.put_product.Goals as goal

pub returns-clause-put : goal.returns-clause-put
returns-clause-put c = product-put places _ _ c.put_tags.ensures.put c.put_if.ensures.put
