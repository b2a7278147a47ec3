-- A tag that is there is needed where the product without it is not within the condition.
use mathlib.Core.Path.{sym, ◌∙◌}
use borrow.Author.Rules.{rules}
use native.Mathlib.Nat.{lt_of_le_of_lt}
use Rattle.conditions.specs.declared.product.Tag.TheVariants.{Absent}
use Rattle.conditions.specs.Places.{places}
use Rattle.conditions.proofs.Primes.{absent, present, part-le}
use Rattle.conditions.proofs.Tags.{tags-equal, tags-differ}
use Rattle.conditions.proofs.product.Product.needs.Goals as goal

pub returns-then-eq : goal.returns-then-eq
returns-then-eq c = absent places _ _ _ c.tag-tag.ensures (tags-equal c.tag-tag.result Absent c.eq.ensures c.if-eq.true)

pub overflow_mul-fewer : goal.overflow_mul-fewer
overflow_mul-fewer c = record { fits = lt_of_le_of_lt (part-le _ _ (c.from.ensures ∙ c.tag-tag.ensures) c.power.ensures) (search rules) }

pub overflow_sub-fewer : goal.overflow_sub-fewer
overflow_sub-fewer c = part-le _ _ (c.from.ensures ∙ c.tag-tag.ensures) c.power.ensures

pub returns : goal.returns
returns c = present places _ _ _ (c.from.ensures ∙ c.tag-tag.ensures) (λ z. tags-differ c.tag-tag.result Absent c.eq.ensures c.if-eq.false (sym c.from.ensures ∙ z)) c.power.ensures c.within.ensures
