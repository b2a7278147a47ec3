-- A set of districts with one more district: what the laws of places do not say of it already.
use mathlib.Core.Path.{◌≡◌, sym, ◌∙◌}
use mathlib.Core.Bool.{true, false, ◌||◌, cond, or-true, or-false}
use Prim.Native.Nat.{ℕ, ◌<◌}
use lib.Dec.{eqb}
use borrow.Author.Tests.{eqb-true, eqb-false, eq-eqb, ne_eqb}
use Rattle.conditions.proofs.Laws.Below.{by_cases}
use Rattle.conditions.specs.Sets.{member}
use Rattle.conditions.proofs.Laws.Places.{member-place}
use Rattle.book.specs.Book.{most_districts, including}

-- those of s, or d
pub including-either : (s d e : ℕ) → e < most_districts → member (including s d) e ≡ (member s e || eqb d e)
including-either s d e h = member-place most_districts s d true e h ∙ by_cases (eqb d e) here other
  where
    here : eqb d e ≡ true → cond (eqb e d) true (member s e) ≡ (member s e || eqb d e)
    here q = rw (q, eq-eqb e d (sym (eqb-true d e q))) (sym (or-true (member s e)))

    other : eqb d e ≡ false → cond (eqb e d) true (member s e) ≡ (member s e || eqb d e)
    other q = rw (q, ne_eqb e d (λ r. eqb-false d e q (sym r))) (sym (or-false (member s e)))

pub including-other : (s d e : ℕ) → e < most_districts → eqb e d ≡ false → member (including s d) e ≡ member s e
including-other s d e h n = member-place most_districts s d true e h ∙ rw n
