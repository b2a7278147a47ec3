-- The tag leaves nothing, or no more than its absence.
use borrow.Author.Tests.{eqb-true}
use Rattle.conditions.specs.declared.product.Tag.TheVariants.{Absent}
use Rattle.conditions.proofs.Skipping.{barren-empty, barren-same}
use Rattle.conditions.proofs.Tags.{tags-differ}
use Rattle.conditions.proofs.product.is_barren.Goals as goal

pub returns-then-with-eq0 : goal.returns-then-with-eq0
returns-then-with-eq0 c e = barren-empty _ _ c.if-with-eq0.true c.narrowed-with.ensures

pub returns : goal.returns
returns c e = barren-same _ _ (tags-differ c.args.tag Absent c.eq.ensures c.if-eq.false) (eqb-true _ _ e) c.narrowed-with.ensures c.narrowed-without.ensures
