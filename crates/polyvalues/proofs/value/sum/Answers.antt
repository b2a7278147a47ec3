-- A sum in range has 16 bits.
use borrow.Author.Rules.{rules}
use borrow.Author.Tests.{tests}
use mathlib.Core.Path.{◌≡◌, ap, ◌∙◌}
use mathlib.Core.Bool.{Bool, cond}
use lib.IntN.{ℤ}
use mir.Facts.{to_z-of_z}
use mir.Syntax.{w16}
use mir.Val.{SFits}
use Rattle.std.specs.Prelude.{Option, Some, None}
use Rattle.std.specs.Bool.{then_some}
use Rattle.std.specs.Option.{MatchOption, SomeIff}
use Rattle.conditions.proofs.Laws.Below.{by_cases}
use Rattle.polyvalues.specs.Values.{in_range, sum}
use Rattle.polyvalues.proofs.Bits.{range-fits, wide, wide_is}
use Rattle.polyvalues.proofs.value.sum.Goals as goal

kept : (G : ℤ → Bool → Type 0) (r f : Option ℤ) (z : ℤ) → SomeIff r (SFits w16 z) z → MatchOption r (f ≡ None) (λ x. (b : Bool) × G x b × (f ≡ then_some b x))
    → ((x : ℤ) (b : Bool) → G x b → b ≡ in_range (wide x)) → f ≡ cond (in_range z) (Some z) None
kept G None f z out e k = by_cases (in_range z) (λ t. absurd (out (range-fits z t))) (λ t. rw t e)
kept G (Some x) f z is found k =
    let fits : SFits w16 x = rw is.1 is.0 in
    let its : found.0 ≡ in_range z = k x found.0 found.1 ∙ ap in_range (wide_is fits ∙ is.1) in
    by_cases (in_range z)
    (λ t. rw t (found.2 ∙ rw (its, t) (ap Some is.1)))
    (λ t. rw t (found.2 ∙ rw (its, t)))

pub returns : goal.returns
unfolding sum
returns c =
    kept _ c.checked_add.result c.filter.result _ (rw (to_z-of_z c.ranges.a, to_z-of_z c.ranges.b) at c.checked_add.ensures) c.filter.ensures (λ x b g. search (rules, tests))
