-- The tests of the code for a product that is within a condition, and for one that is prime, for any number w of places.
use mathlib.Core.Path.{◌≡◌, sym, ap, ap₂, ◌∙◌}
use mathlib.Core.Bool.{Bool, true, false, not, ◌&&◌, ◌||◌, and-false}
use Prim.Native.Nat.{ℕ, ◌+◌, ◌-◌, ◌*◌, ◌^◌, ◌≤◌, ◌<◌, max}
use native.Mathlib.Nat.{lt_of_le_of_lt}
use native.Mathlib.Omega.{arith}
use native.Mathlib.Decide.{dec_lt}
use lib.Bits.{bit_and, and_le_l}
use lib.Dec.{eqb}
use lib.Pow.{pow_pos}
use borrow.Author.Tests.{eq-eqb, ne_eqb, eqb-true, not-false}
use Rattle.conditions.specs.Below.{all, first}
use Rattle.conditions.specs.Sets.{member}
use Rattle.conditions.specs.Conditions.{depends_on}
use Rattle.conditions.specs.Products.{tag_at, allows, allowed, within, dropped, needed, prime, NonePrime, prime_from}
use Rattle.conditions.proofs.Laws.Below.{by_cases, both_ways, all-fails, is-first, first-le, first_passes, before-first}
use Rattle.conditions.proofs.Laws.Sets.{member-and, member-not, member-none, same-members}
use Rattle.conditions.proofs.Laws.Products.{tag-part, member-allowed, allowed-lt, within-at, within_of, prime-low}

-- `m & !c == 0`
pub within-test : (w p c : ℕ) {m : ℕ} → c < 2 ^ 2 ^ w → m ≡ allowed w p → eqb (bit_and m (2 ^ 2 ^ w - 1 - c)) 0 ≡ within w p c
within-test w p c hc q =
    rw q
    (both_ways (eqb (bit_and (allowed w p) (2 ^ 2 ^ w - 1 - c)) 0) (within w p c)
    (λ z. within_of w p c (λ a h t. inside a h t (eqb-true _ _ z)))
    (λ e. eq-eqb _ _ (none (within-at w p c e))))
  where
    at : (a : ℕ) → a < 2 ^ w → member (bit_and (allowed w p) (2 ^ 2 ^ w - 1 - c)) a ≡ (allows w p a && not (member c a))
    at a h = simp (member-and, member-allowed w p a h, member-not (2 ^ w) c a hc h)

    none : ((a : ℕ) → a < 2 ^ w → allows w p a ≡ true → member c a ≡ true) → bit_and (allowed w p) (2 ^ 2 ^ w - 1 - c) ≡ 0
    none f =
        same-members (2 ^ w) (bit_and (allowed w p) (2 ^ 2 ^ w - 1 - c)) 0 (lt_of_le_of_lt (and_le_l (allowed w p) (2 ^ 2 ^ w - 1 - c)) (allowed-lt w p)) (pow_pos (2 ^ w))
        (λ a h. at a h ∙ by_cases (allows w p a) (λ t. ap₂ ◌&&◌ t (ap not (f a h t))) (λ t. ap (λ (x : Bool). x && not (member c a)) t) ∙ sym (member-none a))

    inside : (a : ℕ) → a < 2 ^ w → allows w p a ≡ true → bit_and (allowed w p) (2 ^ 2 ^ w - 1 - c) ≡ 0 → member c a ≡ true
    inside a h t z =
        not-false _ (ap (λ (x : Bool). x && not (member c a)) (sym t) ∙ sym (at a h) ∙ ap (λ (m : ℕ). member m a) z ∙ member-none a)

-- a place with no tag, and one with a tag
pub absent : (w p c i : ℕ) {d : ℕ} → d ≡ tag_at p i → d ≡ 0 → true ≡ needed w p c i
unfolding needed
absent w p c i e z = ap (λ (x : Bool). x || not (within w (dropped p i) c)) (sym (eq-eqb (tag_at p i) 0 (sym e ∙ z)))

pub present : (w p c i : ℕ) {d q : ℕ} {r : Bool} → d ≡ tag_at p i → (d ≡ 0 → ⊥) → q ≡ 3 ^ i → r ≡ within w (p - d * q) c → not r ≡ needed w p c i
unfolding needed dropped
present w p c i e n f g =
    ap not (g ∙ ap₂ (λ (d q : ℕ). within w (p - d * q) c) e f)
    ∙ ap (λ (x : Bool). x || not (within w (dropped p i) c)) (sym (ne_eqb (tag_at p i) 0 (λ z. n (e ∙ z))))

-- what is taken from the product is part of it
pub part-le : (p i : ℕ) {d q : ℕ} → d ≡ tag_at p i → q ≡ 3 ^ i → d * q ≤ p
part-le p i e f = rw (e, f) (tag-part p i)

-- what fails the test
pub not_within : (w p c : ℕ) → within w p c ≡ false → false ≡ prime w p c
unfolding prime
not_within w p c e = ap (λ (x : Bool). x && all w (needed w p c)) (sym e)

pub not-needed : (w p c i : ℕ) → i < w → needed w p c i ≡ false → false ≡ prime w p c
unfolding prime
not-needed w p c i h e = sym (ap (λ (x : Bool). within w p c && x) (all-fails w (needed w p c) i h e) ∙ and-false (within w p c))

-- ---- the next prime product

-- none before p and none of the r from p on, up to any end among them
pub none-on : (w c from p r end : ℕ) → from ≤ p → NonePrime w c from p → NonePrime w c p (p + r) → end ≤ p + r → NonePrime w c from end
none-on w c from p r end h none more k j l = pick (dec_lt j (p - from))
  where
    pick : Dec (j < p - from) → prime w (from + j) c ≡ false
    pick (yes b) = none j b
    pick (no b) = let at : from + j ≡ p + (from + j - p) = omega arith in ap (λ (q : ℕ). prime w q c) at ∙ more (from + j - p) (omega arith)

pub is-next : (w c from limit p : ℕ) → from ≤ p → p - from ≤ limit - from → NonePrime w c from p → (p < limit → prime w p c ≡ true)
    → p ≡ prime_from w c from limit
unfolding prime_from
is-next w c from limit p h l none found =
    let end : from + (p - from) ≡ p = omega arith in
    sym end ∙ ap (λ (i : ℕ). from + i)
    (is-first (limit - from) (λ n. prime w (from + n) c) (p - from) l none (λ k. ap (λ (q : ℕ). prime w q c) end ∙ found (omega arith)))

-- where none below the limit is prime, it is not below the limit
pub none-below : (w c from limit : ℕ) → NonePrime w c from limit → limit ≤ prime_from w c from limit
none-below w c from limit none = pick (dec_lt from limit)
  where
    pick : Dec (from < limit) → limit ≤ prime_from w c from limit
    pick (yes b) = let e = is-next w c from limit limit (omega arith) (omega arith) none (λ h. absurd (omega arith)) in omega arith
    pick (no b) = let e = is-next w c from limit from (omega arith) (omega arith) (λ j l. absurd (omega arith)) (λ h. absurd (omega arith)) in omega arith

-- and then it is the limit, or where the search began past it
pub past-limit : (w c from limit : ℕ) → limit ≤ prime_from w c from limit → max from limit ≡ prime_from w c from limit
unfolding prime_from
past-limit w c from limit h = omega (arith, first-le (limit - from) (λ n. prime w (from + n) c))

-- what is then known of it
pub record Next (w c from limit r : ℕ) : Type 0 where
  pub from_on : from ≤ r
  pub up_to : r ≤ limit
  pub none : NonePrime w c from r
  pub found : r < limit → prime w r c ≡ true

pub next-is : (w c from limit : ℕ) {r : ℕ} → from ≤ limit → r ≡ prime_from w c from limit → Next w c from limit r
unfolding prime_from
next-is w c from limit {r} h e =
    let f : ℕ → Bool = λ n. prime w (from + n) c in
    let k : ℕ = first (limit - from) f in
    let le : k ≤ limit - from = first-le (limit - from) f in
    let at : r ≡ from + k = e in
    record {
      from_on = omega arith;
      up_to = omega arith;
      none = λ j l. before-first (limit - from) f j (omega arith);
      found = λ l. ap (λ (q : ℕ). prime w q c) e ∙ first_passes (limit - from) f (omega arith);
    }

-- one place more that does not matter
pub free_more : (w c i : ℕ) → 0 < i → depends_on w c (i - 1) ≡ false → ((j : ℕ) → i ≤ j → j < w → depends_on w c j ≡ false)
    → (j : ℕ) → i - 1 ≤ j → j < w → depends_on w c j ≡ false
free_more w c i h e free j l k = pick (dec_lt j i)
  where
    pick : Dec (j < i) → depends_on w c j ≡ false
    pick (yes b) = let q : j ≡ i - 1 = omega arith in ap (depends_on w c) q ∙ e
    pick (no b) = free j (omega arith) k

-- `3 ^ m`, where no place from m on matters
pub none-high : (w c m : ℕ) {r : ℕ} → r ≡ 3 ^ m → ((i : ℕ) → m ≤ i → i < w → depends_on w c i ≡ false) → NonePrime w c r (3 ^ w)
none-high w c m e free j l = prime-low w c m free _ (omega arith) (omega arith)
