-- A set of assignments to i + 1 places by the two halves of its number: the low one where the last place is aborted, the high one where it is completed.
use mathlib.Core.Path.{◌≡◌, refl, sym, ap, ap₂, ◌∙◌}
use mathlib.Core.Bool.{Bool, true, false, not, ◌&&◌, ◌||◌, cond, and-true, and-false, and_comm, or-and_distrib_left}
use Prim.Native.Nat.{ℕ, zero, suc, ◌+◌, ◌/◌, ◌%◌, ◌^◌, ◌<◌}
use native.Mathlib.Nat.{le_refl, zero-div, zero-mod}
use native.Mathlib.Omega.{arith}
use lib.Bits.{bit_and}
use Rattle.conditions.specs.Below.{all}
use Rattle.conditions.specs.Sets.{member}
use Rattle.conditions.specs.Products.{tag_at, agrees, allows, within}
use Rattle.conditions.proofs.Laws.Below.{all_of, all_same, all-plus, all_both}
use Rattle.conditions.proofs.Laws.Sets.{member-and, member-none, member-past, member-mod, member-shr}
use Rattle.conditions.proofs.Laws.Places.{member-more, up-other}
use Rattle.conditions.proofs.Laws.Products.{asks-not}

-- the last place of an assignment of the low half is aborted
low-last : (i a : ℕ) → a < 2 ^ i → member a i ≡ false
low-last i a h = member-past i a i h (le_refl i)

-- that of the high half is completed
high-last : (i a : ℕ) → a < 2 ^ i → member (2 ^ i + a) i ≡ true
high-last i a h = member-more a i ∙ ap not (low-last i a h)

-- and its other places are those of the assignment 2 ^ i below it
allows-high : (i q a : ℕ) → a < 2 ^ i → allows i q (2 ^ i + a) ≡ allows i q a
unfolding allows
allows-high i q a h =
    all_same i (λ j. agrees (tag_at q j) (member (2 ^ i + a) j)) (λ j. agrees (tag_at q j) (member a j))
    (λ j l. ap (agrees (tag_at q j)) (up-other a i j (low-last i a h) (λ e. absurd (omega arith))))

-- a half counts where the tag agrees with it
counted : (i q : ℕ) (b : Bool) (c : ℕ) (f : ℕ → Bool) → ((a : ℕ) → a < 2 ^ i → f a ≡ (not (allows i q a && b) || member c a))
    → all (2 ^ i) f ≡ cond b (within i q c) true
unfolding within
counted i q true c f e =
    all_same (2 ^ i) f (λ a. not (allows i q a) || member c a) (λ a h. e a h ∙ ap (λ (x : Bool). not x || member c a) (and-true (allows i q a)))
counted i q false c f e = all_of (2 ^ i) f (λ a h. e a h ∙ ap (λ (x : Bool). not x || member c a) (and-false (allows i q a)))

-- a product is within a set where it is within each half that its last tag agrees with
within-halves : (i q c : ℕ)
    → within (suc i) q c ≡ (cond (agrees (tag_at q i) false) (within i q (c % 2 ^ 2 ^ i)) true && cond (agrees (tag_at q i) true) (within i q (c / 2 ^ 2 ^ i)) true)
unfolding within allows all
within-halves i q c =
    let f : ℕ → Bool = λ a. not (allows (suc i) q a) || member c a in
    let twice : 2 ^ suc i ≡ 2 ^ i + 2 ^ i = omega arith in
    ap (λ (k : ℕ). all k f) twice ∙ all-plus (2 ^ i) (2 ^ i) f
    ∙ ap₂ ◌&&◌
    (counted i q (agrees (tag_at q i) false) (c % 2 ^ 2 ^ i) f
    (λ a h. ap₂ (λ (x y : Bool). not (allows i q a && agrees (tag_at q i) x) || y) (low-last i a h) (sym (member-mod (2 ^ i) c a h))))
    (counted i q (agrees (tag_at q i) true) (c / 2 ^ 2 ^ i) (λ a. f (2 ^ i + a))
    (λ a h. ap₂ (λ (x y : Bool). not (x && agrees (tag_at q i) y) || member c (2 ^ i + a)) (allows-high i q a h) (high-last i a h)
    ∙ ap (λ (y : Bool). not (allows i q a && agrees (tag_at q i) true) || y) (sym (member-shr c (2 ^ i) a))))

-- within both is within what both have
within_both : (w q c d : ℕ) → within w q (bit_and c d) ≡ (within w q c && within w q d)
unfolding within
within_both w q c d =
    all_same (2 ^ w) (λ a. not (allows w q a) || member (bit_and c d) a) (λ a. (not (allows w q a) || member c a) && (not (allows w q a) || member d a))
    (λ a h. ap (λ (x : Bool). not (allows w q a) || x) (member-and c d a) ∙ or-and_distrib_left (not (allows w q a)) (member c a) (member d a))
    ∙ all_both (2 ^ w) (λ a. not (allows w q a) || member c a) (λ a. not (allows w q a) || member d a)

-- an absent tag leaves of a set what both halves have
pub within-absent : (i q c : ℕ) → tag_at q i ≡ 0 → within i q (bit_and (c / 2 ^ 2 ^ i) (c % 2 ^ 2 ^ i)) ≡ within (suc i) q c
within-absent i q c t =
    within_both i q (c / 2 ^ 2 ^ i) (c % 2 ^ 2 ^ i) ∙ and_comm (within i q (c / 2 ^ 2 ^ i)) (within i q (c % 2 ^ 2 ^ i)) ∙ sym (within-halves i q c ∙ rw t refl)

-- a completed one leaves the high half
pub within-completed : (i q c : ℕ) → tag_at q i ≡ 1 → within i q (c / 2 ^ 2 ^ i) ≡ within (suc i) q c
within-completed i q c t = sym (within-halves i q c ∙ rw t refl)

-- an aborted one leaves the low half
pub within-aborted : (i q c : ℕ) → (tag_at q i ≡ 0 → ⊥) → (tag_at q i ≡ 1 → ⊥) → within i q (c % 2 ^ 2 ^ i) ≡ within (suc i) q c
within-aborted i q c z n = sym (within-halves i q c ∙ rw (asks-not (tag_at q i) z n false, asks-not (tag_at q i) z n true) (and-true (within i q (c % 2 ^ 2 ^ i))))

-- every product allows some assignment: none is within the empty set
pub within-nothing : (w q : ℕ) → within w q 0 ≡ false
unfolding within allows all
within-nothing zero q = member-none 0
within-nothing (suc w) q =
    within-halves w q 0
    ∙ ap₂ (λ (x y : Bool). cond (agrees (tag_at q w) false) x true && cond (agrees (tag_at q w) true) y true)
    (ap (within w q) (zero-mod (2 ^ 2 ^ w)) ∙ within-nothing w q) (ap (within w q) (zero-div (2 ^ 2 ^ w)) ∙ within-nothing w q)
    ∙ go (tag_at q w)
  where
    go : (d : ℕ) → (cond (agrees d false) false true && cond (agrees d true) false true) ≡ false
    go zero = refl
    go (suc zero) = refl
    go (suc (suc d)) = refl
