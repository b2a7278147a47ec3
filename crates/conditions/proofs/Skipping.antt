-- How the search for prime products skips, for any number w of places: the tags of p are read from the highest place down, and `set` is what they leave of the condition.
use mathlib.Core.Path.{◌≡◌, refl, sym, ap, ap₂, ◌∙◌}
use mathlib.Core.Bool.{Bool, false, not, ◌&&◌, ◌||◌, and-not_self}
use Prim.Native.Nat.{ℕ, suc, ◌+◌, ◌-◌, ◌*◌, ◌/◌, ◌%◌, ◌^◌, ◌≤◌, ◌<◌}
use native.Mathlib.Nat.{le_refl, mod-lt, one-le-pow, zero-lt-suc, pow-suc, pow-succ', div-add-mod'}
use native.Mathlib.Omega.{arith}
use lib.Arith.{mod-mul, digits_div, digits_mod}
use lib.Bits.{bit_and, and_mask}
use lib.Dec.{eqb}
use lib.Pow.{pow-lt, pow_pos}
use borrow.Author.Tests.{ne_eqb}
use Rattle.conditions.specs.Products.{tag_at, within, dropped, needed, NonePrime}
use Rattle.conditions.proofs.Laws.Below.{by_cases}
use Rattle.conditions.proofs.Laws.Sets.{one_shl}
use Rattle.conditions.proofs.Laws.Products.{tag-dropped, tag-other, within-tags, tag-high}
use Rattle.conditions.proofs.Laws.Halves.{within-absent, within-completed, within-aborted, within-nothing}
use Rattle.conditions.proofs.Primes.{not_within, not-needed}

-- ---- `(c >> s) & (c & m)`, `c >> s` and `c & m` with `s = 1 << i` and `m = (1 << s) - 1`

-- `1 << s` is one more than the greatest number of 2 ^ i bits
one-shl-twice : (w i : ℕ) {s : ℕ} → i < w → s ≡ 2 ^ i → 1 * 2 ^ s % 2 ^ 2 ^ w ≡ 2 ^ 2 ^ i
one-shl-twice w i h e = rw e (one_shl (2 ^ w) (2 ^ i) (pow-lt h))

-- so 1 can be taken from it
pub half-some : (w i : ℕ) {s : ℕ} → i < w → s ≡ 2 ^ i → 1 ≤ 1 * 2 ^ s % 2 ^ 2 ^ w
half-some w i h e = rw (one-shl-twice w i h e) (pow_pos (2 ^ i))

-- and `c & m` is the low half
low_half : (w i c : ℕ) {s : ℕ} → i < w → s ≡ 2 ^ i → bit_and c (1 * 2 ^ s % 2 ^ 2 ^ w - 1) ≡ c % 2 ^ 2 ^ i
low_half w i c h e = ap (λ (m : ℕ). bit_and c (m - 1)) (one-shl-twice w i h e) ∙ and_mask c (2 ^ i)

-- a place that is absent leaves what both halves have
pub leaves-both : (w i c : ℕ) {d s : ℕ} → i < w → s ≡ 2 ^ i → d ≡ 0 → (q : ℕ) → tag_at q i ≡ d
    → within i q (bit_and (c / 2 ^ s) (bit_and c (1 * 2 ^ s % 2 ^ 2 ^ w - 1))) ≡ within (suc i) q c
leaves-both w i c h e z q t = ap₂ (λ (m n : ℕ). within i q (bit_and (c / 2 ^ m) n)) e (low_half w i c h e) ∙ within-absent i q c (t ∙ z)

-- a completed one leaves the high half
pub leaves-high : (i c : ℕ) {d s : ℕ} → s ≡ 2 ^ i → d ≡ 1 → (q : ℕ) → tag_at q i ≡ d → within i q (c / 2 ^ s) ≡ within (suc i) q c
leaves-high i c e z q t = ap (λ (m : ℕ). within i q (c / 2 ^ m)) e ∙ within-completed i q c (t ∙ z)

-- an aborted one leaves the low half
pub leaves-low : (w i c : ℕ) {d s : ℕ} → i < w → s ≡ 2 ^ i → d ≡ 2 → (q : ℕ) → tag_at q i ≡ d
    → within i q (bit_and c (1 * 2 ^ s % 2 ^ 2 ^ w - 1)) ≡ within (suc i) q c
leaves-low w i c h e z q t = ap (within i q) (low_half w i c h e) ∙ within-aborted i q c (λ y. absurd (omega arith)) (λ y. absurd (omega arith))

-- ---- a tag that no product within the set needs

-- it leaves nothing
pub barren-empty : (i set : ℕ) {tag with : ℕ} → with ≡ 0 → ((q : ℕ) → tag_at q i ≡ tag → within i q with ≡ within (suc i) q set)
    → (q : ℕ) → tag_at q i ≡ tag → (within (suc i) q set && needed (suc i) q set i) ≡ false
barren-empty i set e leaves q t = ap (λ (x : Bool). x && needed (suc i) q set i) (sym (leaves q t) ∙ ap (within i q) e ∙ within-nothing i q)

-- it leaves no more than its absence does
pub barren-same : (i set : ℕ) {tag with without : ℕ} → (tag ≡ 0 → ⊥) → with ≡ without
    → ((q : ℕ) → tag_at q i ≡ tag → within i q with ≡ within (suc i) q set) → ((q : ℕ) → tag_at q i ≡ 0 → within i q without ≡ within (suc i) q set)
    → (q : ℕ) → tag_at q i ≡ tag → (within (suc i) q set && needed (suc i) q set i) ≡ false
unfolding needed
barren-same i set {without = without} has e leaves frees q t =
    let same : within (suc i) (dropped q i) set ≡ within (suc i) q set =
    sym (frees (dropped q i) (tag-dropped q i)) ∙ within-tags i (dropped q i) q without (λ j h. tag-other q i j (λ s. absurd (omega arith)))
    ∙ ap (within i q) (sym e) ∙ leaves q t in
    ap₂ (λ (x y : Bool). within (suc i) q set && (x || not y)) (ne_eqb (tag_at q i) 0 (λ z. has (sym t ∙ z))) same ∙ and-not_self (within (suc i) q set)

-- ---- the walk

-- the tags of p from place i on are read: the rest of its number has the others, and a product with these tags is within the condition where it is within the set
pub record Walk (w c p i set rest scale : ℕ) : Type 0 where
  pub up_to : i ≤ w
  pub scaled : scale ≡ 3 ^ i
  pub lower : rest ≡ p % 3 ^ i
  pub leaves : (q : ℕ) → ((j : ℕ) → i ≤ j → j < w → tag_at q j ≡ tag_at p j) → within i q set ≡ within w q c

-- before the highest place none is read
pub walk_begins : (w c p : ℕ) → Walk w c p w c (p % 3 ^ w) (3 ^ w)
walk_begins w c p = record { up_to = le_refl w; scaled = refl; lower = refl; leaves = λ q same. refl }

-- what the next place counts
scale-is : (k : ℕ) {i scale : ℕ} → i ≡ suc k → scale ≡ 3 ^ i → scale / 3 ≡ 3 ^ k
scale-is k e s = let next : 3 ^ suc k ≡ 3 ^ k * 3 = pow-suc 3 k in let here : _ ≡ 3 ^ suc k = s ∙ ap (λ (n : ℕ). 3 ^ n) e in omega arith

-- which is not 0
pub scale-some : (w c p k : ℕ) {i set rest scale : ℕ} → i ≡ suc k → Walk w c p i set rest scale → 0 < scale / 3
scale-some w c p k e walk = rw (scale-is k e walk.scaled) (one-le-pow k 3 (zero-lt-suc 2))

-- the rest is the next tag and what is below it
rest-cut : (w c p k : ℕ) {i set rest scale : ℕ} → i ≡ suc k → Walk w c p i set rest scale → rest ≡ tag_at p k * 3 ^ k + p % 3 ^ k
unfolding tag_at
rest-cut w c p k e walk =
    walk.lower ∙ ap (λ (n : ℕ). p % 3 ^ n) e ∙ ap (λ (m : ℕ). p % m) (pow-succ' 3 k) ∙ mod-mul p (zero-lt-suc 2) (one-le-pow k 3 (zero-lt-suc 2))

-- the one by `/`
tag_is : (w c p k : ℕ) {i set rest scale : ℕ} → i ≡ suc k → Walk w c p i set rest scale → rest / (scale / 3) ≡ tag_at p k
tag_is w c p k e walk =
    ap₂ ◌/◌ (rest-cut w c p k e walk) (scale-is k e walk.scaled) ∙ digits_div (tag_at p k) (mod-lt p (one-le-pow k 3 (zero-lt-suc 2)))

-- a digit
pub tag-below : (w c p k : ℕ) {i set rest scale : ℕ} → i ≡ suc k → Walk w c p i set rest scale → rest / (scale / 3) < 3
unfolding tag_at
tag-below w c p k e walk = rw (tag_is w c p k e walk) (mod-lt (p / 3 ^ k) (zero-lt-suc 2))

-- the other by `%`
rest-is : (w c p k : ℕ) {i set rest scale : ℕ} → i ≡ suc k → Walk w c p i set rest scale → rest % (scale / 3) ≡ p % 3 ^ k
rest-is w c p k e walk =
    ap₂ ◌%◌ (rest-cut w c p k e walk) (scale-is k e walk.scaled) ∙ digits_mod (tag_at p k) (mod-lt p (one-le-pow k 3 (zero-lt-suc 2)))

-- one place further
pub walk-on : (w c p k : ℕ) {i set rest scale r : ℕ} → i ≡ suc k → Walk w c p i set rest scale
    → ((q : ℕ) → tag_at q k ≡ rest / (scale / 3) → within k q r ≡ within (suc k) q set) → Walk w c p k r (rest % (scale / 3)) (scale / 3)
walk-on w c p k {i} {set} e walk narrows =
    let up : i ≤ w = walk.up_to in
    record {
      up_to = omega arith;
      scaled = scale-is k e walk.scaled;
      lower = rest-is w c p k e walk;
      leaves = λ q same.
          narrows q (same k (le_refl k) (omega arith) ∙ sym (tag_is w c p k e walk)) ∙ ap (λ (n : ℕ). within n q set) (sym e) ∙ walk.leaves q (λ j l h. same j (omega arith) h);
    }

-- ---- where it stops

-- the numbers up to the next multiple of 3 ^ k have the same tags from place k on
same-high : (p k j : ℕ) → j < 3 ^ k - p % 3 ^ k → (i : ℕ) → k ≤ i → tag_at (p + j) i ≡ tag_at p i
same-high p k j h i l =
    let cut : p / 3 ^ k * 3 ^ k + p % 3 ^ k ≡ p = div-add-mod' p (3 ^ k) in
    let sum : p + j ≡ p / 3 ^ k * 3 ^ k + (p % 3 ^ k + j) = omega arith in
    let high : (p + j) / 3 ^ k ≡ p / 3 ^ k = ap (λ (n : ℕ). n / 3 ^ k) sum ∙ digits_div (p / 3 ^ k) (omega arith) in
    let at : i ≡ k + (i - k) = omega arith in
    ap (tag_at (p + j)) at ∙ tag-high (p + j) k (i - k) ∙ ap (λ (n : ℕ). tag_at n (i - k)) high ∙ sym (ap (tag_at p) at ∙ tag-high p k (i - k))

-- and none of them is prime, where none needs its tag at place k
pub walk-stops : (w c p k : ℕ) {i set rest scale : ℕ} → i ≡ suc k → Walk w c p i set rest scale
    → ((q : ℕ) → tag_at q k ≡ rest / (scale / 3) → (within (suc k) q set && needed (suc k) q set k) ≡ false)
    → NonePrime w c p (p + (scale / 3 - rest % (scale / 3)))
unfolding needed
walk-stops w c p k {i} {set} {rest} {scale} e walk barren j h =
    let up : i ≤ w = walk.up_to in
    let s : scale / 3 ≡ 3 ^ k = scale-is k e walk.scaled in
    let r : rest % (scale / 3) ≡ p % 3 ^ k = rest-is w c p k e walk in
    let same : (i : ℕ) → k ≤ i → tag_at (p + j) i ≡ tag_at p i = same-high p k j (omega arith) in
    let leaves : (q : ℕ) → ((j : ℕ) → suc k ≤ j → tag_at q j ≡ tag_at p j) → within (suc k) q set ≡ within w q c =
    λ q alike. ap (λ (n : ℕ). within n q set) (sym e) ∙ walk.leaves q (λ j l h. alike j (omega arith)) in
    let whole : within (suc k) (p + j) set ≡ within w (p + j) c = leaves (p + j) (λ i l. same i (omega arith)) in
    let fewer : within (suc k) (dropped (p + j) k) set ≡ within w (dropped (p + j) k) c =
    leaves (dropped (p + j) k) (λ i l. tag-other (p + j) k i (λ q. absurd (omega arith)) ∙ same i (omega arith)) in
    let fails : (within w (p + j) c && needed w (p + j) c k) ≡ false =
    ap₂ (λ (x y : Bool). x && (eqb (tag_at (p + j) k) 0 || not y)) (sym whole) (sym fewer) ∙ barren (p + j) (same k (le_refl k) ∙ sym (tag_is w c p k e walk)) in
    by_cases (within w (p + j) c)
    (λ t. sym (not-needed w (p + j) c k (omega arith) (ap (λ (x : Bool). x && needed w (p + j) c k) (sym t) ∙ fails)))
    (λ t. sym (not_within w (p + j) c t))
