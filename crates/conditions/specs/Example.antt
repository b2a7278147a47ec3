-- The marked example of document 01 that speaks of conditions alone; crate demands lists all ten.
use Rattle.std.specs.Prelude.{◌≡◌, refl, ℕ, suc}
use Rattle.conditions.specs.Below.{all, those}
use Rattle.conditions.specs.Sets.{odd, member, set_of}
use Rattle.conditions.specs.Places.{places}
use Rattle.conditions.specs.Conditions.{union, intersection, complement, completed}
use Rattle.conditions.specs.Products.{tag_at, allows, within, dropped, needed, prime, primes}
use Rattle.conditions.specs.Text.{bytes, digits, decimal, prefixed, joined, tag_text, tags_text, product_text, condition_text}

-- T1&T2 or !T1&T3, with T1, T2 and T3 at places 0, 1 and 2
unfoldable pub two_ways : ℕ
two_ways =
    union places
    (intersection places (completed places 0) (completed places 1))
    (intersection places (complement places (completed places 0)) (completed places 2))

-- "10. T1&T2 or !T1&T3 (places 0, 1, 2) prints `T1&T2|!T1&T3|T2&T3`."
abbrev pub Example10 : Type 0
Example10 = condition_text places (λ i. suc i) two_ways ≡ bytes "T1&T2|!T1&T3|T2&T3"

pub example-10 : Example10
unfolding all those odd member set_of union intersection complement completed two_ways tag_at allows within dropped needed prime primes digits decimal prefixed joined tag_text tags_text product_text condition_text
example-10 = refl
