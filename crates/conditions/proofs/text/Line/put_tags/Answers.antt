use mathlib.Core.Path.{refl}
use native.Mathlib.Numerals.{add-one}
use native.Mathlib.Omega.{arith}
use Rattle.conditions.specs.Below.{those}
use Rattle.conditions.specs.Text.{joined, tags_text}
use Rattle.conditions.proofs.Putting.{puts_none, tags-more}
use Rattle.conditions.proofs.text.Line.put_tags.Goals as goal

pub loop-i-init : goal.loop-i-init
unfolding tags_text those joined
loop-i-init c = record { put = puts_none _; upper_bound = omega arith }

pub loop-i-preserved : goal.loop-i-preserved
loop-i-preserved c = record {
  put = rw add-one (tags-more _ _ _ c.loop-i.invariant.put c.tag.ensures refl c.put_place.ensures.put);
  upper_bound = omega (arith, c.loop-i.invariant.upper_bound, c.put_place.ensures.upper_bound);
}
