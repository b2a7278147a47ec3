-- `set | (1 << d)` is the set and the district d.
use mathlib.Core.Path.{◌≡◌, sym, ap, ◌∙◌}
use mathlib.Core.Bool.{Bool, true, false, ◌||◌, cond, or-true, or-false}
use Prim.Native.Nat.{ℕ, ◌+◌, ◌*◌, ◌%◌, ◌^◌, ◌<◌}
use native.Mathlib.Omega.{arith}
use lib.Dec.{eqb}
use lib.Bits.{bit_or, or_lt}
use Rattle.conditions.specs.Sets.{member}
use Rattle.conditions.specs.Places.{with_place}
use Rattle.conditions.proofs.Laws.Sets.{member-none, member-or, one_shl}
use Rattle.conditions.proofs.Laws.Places.{place-lt, member-place, is-place, place_up}
use Rattle.book.specs.Book.{most_districts, including}

either : (x here none : Bool) → none ≡ false → (x || cond here true none) ≡ cond here true x
either x true none e = or-true x
either x false none e = rw e (or-false x)

pub including-is : (s d : ℕ) → s < 2 ^ most_districts → d < most_districts → bit_or s (1 * 2 ^ d % 2 ^ most_districts) ≡ including s d
including-is s d l h =
    let zero : 0 < 2 ^ most_districts = omega arith in
    let up : with_place most_districts 0 d true ≡ 2 ^ d + 0 = place_up most_districts 0 d zero h (member-none d) in
    let one : 1 * 2 ^ d % 2 ^ most_districts ≡ with_place most_districts 0 d true =
    one_shl most_districts d h ∙ (let e : 2 ^ d ≡ 2 ^ d + 0 = omega arith in e) ∙ sym up in
    rw one
    (is-place most_districts s d true (bit_or s (with_place most_districts 0 d true)) (or_lt most_districts s (with_place most_districts 0 d true) l (place-lt most_districts 0 d true))
    (λ j k.
    member-or s (with_place most_districts 0 d true) j
    ∙ ap (λ (x : Bool). member s j || x) (member-place most_districts 0 d true j k)
    ∙ either (member s j) (eqb j d) (member 0 j) (member-none j)))
