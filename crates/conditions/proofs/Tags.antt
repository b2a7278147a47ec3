-- The tags of the code, by the numbers that they count.
use mathlib.Core.Path.{◌≡◌, refl, sym, ◌∙◌}
use mathlib.Core.Bool.{Bool, true, false}
use lib.Dec.{eqb}
use borrow.Author.Tests.{eqb-true, eqb-false}
use denote.Enum.Bare.{sameb}
use Rattle.conditions.specs.declared.product.Tag.{Tag}
use Rattle.conditions.specs.declared.product.Tag.TheVariants.{Absent, Completed, Aborted}
use Rattle.conditions.specs.contracts.product.Tag.{the_type}
use Rattle.conditions.specs.Products.{tag_number}

-- `==` of two tags
pub same-number : (t u : Tag) → sameb the_type t u ≡ eqb (tag_number t) (tag_number u)
same-number Absent Absent = refl
same-number Absent Completed = refl
same-number Absent Aborted = refl
same-number Completed Absent = refl
same-number Completed Completed = refl
same-number Completed Aborted = refl
same-number Aborted Absent = refl
same-number Aborted Completed = refl
same-number Aborted Aborted = refl

pub tags-equal : (t u : Tag) {r : Bool} → r ≡ sameb the_type t u → r ≡ true → tag_number t ≡ tag_number u
tags-equal t u e f = eqb-true _ _ (sym (same-number t u) ∙ sym e ∙ f)

pub tags-differ : (t u : Tag) {r : Bool} → r ≡ sameb the_type t u → r ≡ false → tag_number t ≡ tag_number u → ⊥
tags-differ t u e f = eqb-false _ _ (sym (same-number t u) ∙ sym e ∙ f)
