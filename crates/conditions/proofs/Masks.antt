-- The masks and shifts of the code are the definitions, for any number w of places.
use mathlib.Core.Path.{◌≡◌, refl, sym, ap, ap₂, ◌∙◌}
use mathlib.Core.Bool.{Bool, true, false, not, ◌&&◌, ◌||◌, cond, and-true, and-false, or-false}
use Prim.Native.Nat.{ℕ, ◌+◌, ◌-◌, ◌*◌, ◌/◌, ◌%◌, ◌^◌, ◌<◌}
use native.Mathlib.Nat.{lt_of_le_of_lt, mod-lt}
use native.Mathlib.Decide.{dec_lt}
use native.Mathlib.Omega.{arith}
use lib.Pow.{pow_pos, pow-lt, shr_le, ones_sub-lt}
use lib.Bits.{bit_and, bit_or, or_lt, and_le_l}
use Rattle.conditions.specs.Sets.{member, set_of}
use Rattle.conditions.specs.Places.{with_place}
use Rattle.conditions.specs.Conditions.{union, intersection, complement, completed, selected, reduced}
use Rattle.conditions.specs.Products.{agrees}
use Rattle.conditions.proofs.Laws.Sets.{member-and, member-or, member-not, member-shr, member-shl, member-shl-below, member-mod, member-set_of-not, is-set_of, set_of-same, one_shl}
use Rattle.conditions.proofs.Laws.Places.{place-lt, member-set, place_same, place_up, place_down, member-more}
use Rattle.conditions.proofs.Laws.Conditions.{member-complement, member-completed}

-- ---- `c | d`, `c & d`, `!c`

pub or_is : (w c d : ℕ) → c < 2 ^ 2 ^ w → d < 2 ^ 2 ^ w → bit_or c d ≡ union w c d
unfolding union
or_is w c d hc hd = is-set_of (2 ^ w) (bit_or c d) (λ a. member c a || member d a) (or_lt (2 ^ w) c d hc hd) (λ a h. member-or c d a)

pub and_is : (w c d : ℕ) → c < 2 ^ 2 ^ w → bit_and c d ≡ intersection w c d
unfolding intersection
and_is w c d hc = is-set_of (2 ^ w) (bit_and c d) (λ a. member c a && member d a) (lt_of_le_of_lt (and_le_l c d) hc) (λ a h. member-and c d a)

pub not_is : (w c : ℕ) → c < 2 ^ 2 ^ w → 2 ^ 2 ^ w - 1 - c ≡ complement w c
unfolding complement
not_is w c hc = is-set_of (2 ^ w) (2 ^ 2 ^ w - 1 - c) (λ a. not (member c a)) (ones_sub-lt (2 ^ w) c) (λ a h. member-not (2 ^ w) c a hc h)

-- ---- the mask of a place, and the assignments outside it

none-completed : (w i n : ℕ) → member n i ≡ false → member (completed w i) n ≡ false
unfolding completed
none-completed w i n e = member-set_of-not (2 ^ w) (λ a. member a i) n e

abbrev others : ℕ → ℕ → ℕ
others w i = complement w (completed w i)

member-others : (w i n : ℕ) → n < 2 ^ w → member (others w i) n ≡ not (member n i)
member-others w i n h = member-complement w (completed w i) n h ∙ ap not (member-completed w i n h)

-- ---- `(c & m) | (d & !m)`

either : (x c d : Bool) → ((c && x) || (d && not x)) ≡ cond x c d
either true c d = rw (and-true, and-false, or-false)
either false c d = rw (and-false, and-true)

pub select-is : (w i : ℕ) {c d m o : ℕ} → c < 2 ^ 2 ^ w → d < 2 ^ 2 ^ w → m ≡ completed w i → o ≡ complement w m
    → bit_or (bit_and c m) (bit_and d o) ≡ selected w i c d
unfolding selected
select-is w i {c} {d} hc hd q s =
    rw (s, q)
    (is-set_of (2 ^ w) (bit_or (bit_and c (completed w i)) (bit_and d (others w i))) (λ a. cond (member a i) (member c a) (member d a))
    (or_lt (2 ^ w) (bit_and c (completed w i)) (bit_and d (others w i)) (lt_of_le_of_lt (and_le_l c (completed w i)) hc) (lt_of_le_of_lt (and_le_l d (others w i)) hd))
    (λ n h. simp (member-or, member-and, member-completed, member-others) (either (member n i) (member c n) (member d n))))

-- ---- `c`, `c & m` or `c & !m`, as a tag asks

pub tag-absent : (w i c : ℕ) {d : ℕ} → c < 2 ^ 2 ^ w → d ≡ 0 → c ≡ set_of (2 ^ w) (λ a. member c a && agrees d (member a i))
tag-absent w i c hc z = rw z (is-set_of (2 ^ w) c (λ a. member c a && true) hc (λ a h. sym (and-true (member c a))))

pub tag-completed : (w i c : ℕ) {d m r : ℕ} → d ≡ 1 → m ≡ completed w i → r ≡ intersection w c m → r ≡ set_of (2 ^ w) (λ a. member c a && agrees d (member a i))
unfolding intersection
tag-completed w i c z q e =
    e ∙ rw (z, q)
    (set_of-same (2 ^ w) (λ a. member c a && member (completed w i) a) (λ a. member c a && member a i)
    (λ a h. ap (λ (x : Bool). member c a && x) (member-completed w i a h)))

pub tag-aborted : (w i c : ℕ) {d m o r : ℕ} → d ≡ 2 → m ≡ completed w i → o ≡ complement w m → r ≡ intersection w c o
    → r ≡ set_of (2 ^ w) (λ a. member c a && agrees d (member a i))
unfolding intersection
tag-aborted w i c z q s e =
    e ∙ rw (z, s, q)
    (set_of-same (2 ^ w) (λ a. member c a && member (others w i) a) (λ a. member c a && not (member a i))
    (λ a h. ap (λ (x : Bool). member c a && x) (member-others w i a h)))

-- ---- `h | (h >> 2 ^ i)` with `h = c & m`

completed-at : (w i c n : ℕ) → i < w → n < 2 ^ w
    → (member (bit_and c (completed w i)) n || member (bit_and c (completed w i)) (2 ^ i + n)) ≡ member c (with_place w n i true)
completed-at w i c n l h = simp member-and (go (member n i) refl)
  where
    go : (b : Bool) → member n i ≡ b
        → ((member c n && member (completed w i) n) || (member c (2 ^ i + n) && member (completed w i) (2 ^ i + n))) ≡ member c (with_place w n i true)
    go true e =
        let off : member (completed w i) (2 ^ i + n) ≡ false = none-completed w i (2 ^ i + n) (member-more n i ∙ ap not e) in
        simp (member-completed w i n h, e, off, and-true, and-false, or-false, place_same w n i true h (λ k. e))
    go false e =
        let up : with_place w n i true ≡ 2 ^ i + n = place_up w n i h l e in
        let on : member (completed w i) (2 ^ i + n) ≡ true = member-completed w i (2 ^ i + n) (rw up at (place-lt w n i true)) ∙ member-more n i ∙ ap not e in
        simp (none-completed w i n e, on, up, and-true, and-false)

pub reduce-completed : (w i : ℕ) {c m s : ℕ} → i < w → c < 2 ^ 2 ^ w → m ≡ completed w i → s ≡ 2 ^ i
    → bit_or (bit_and c m) (bit_and c m / 2 ^ s) ≡ reduced w c i true
unfolding reduced
reduce-completed w i {c} l hc q d =
    let t : ℕ = bit_and c (completed w i) in
    let ht : t < 2 ^ 2 ^ w = lt_of_le_of_lt (and_le_l c (completed w i)) hc in
    rw (q, d)
    (is-set_of (2 ^ w) (bit_or t (t / 2 ^ 2 ^ i)) (λ a. member c (with_place w a i true))
    (or_lt (2 ^ w) t (t / 2 ^ 2 ^ i) ht (lt_of_le_of_lt (shr_le t (2 ^ i)) ht))
    (λ n h. member-or t (t / 2 ^ 2 ^ i) n ∙ ap (λ (x : Bool). member t n || x) (member-shr t (2 ^ i) n) ∙ completed-at w i c n l h))

-- ---- `h | (h << 2 ^ i)` with `h = c & !m`

aborted-at : (w i c n : ℕ) → i < w → n < 2 ^ w
    → (member (bit_and c (others w i)) n || member (bit_and c (others w i) * 2 ^ 2 ^ i) n) ≡ member c (with_place w n i false)
aborted-at w i c n l h = go (member n i) refl
  where
    at : (k : ℕ) → k < 2 ^ w → member (bit_and c (others w i)) k ≡ (member c k && not (member k i))
    at k hk = simp (member-and, member-others w i k hk)

    -- nothing is shifted to an assignment in which the place is aborted
    none : (member n i ≡ false) → Dec (n < 2 ^ i) → member (bit_and c (others w i) * 2 ^ 2 ^ i) n ≡ false
    none e (yes b) = member-shl-below (bit_and c (others w i)) (2 ^ i) n b
    none e (no b) =
        let k : ℕ = n - 2 ^ i in
        let q : n ≡ 2 ^ i + k = omega arith in
        let on : not (member k i) ≡ false = sym (member-more k i) ∙ ap (λ (a : ℕ). member a i) (sym q) ∙ e in
        ap (member (bit_and c (others w i) * 2 ^ 2 ^ i)) q ∙ member-shl (bit_and c (others w i)) (2 ^ i) k ∙ at k (omega arith) ∙ rw on (and-false (member c k))

    go : (b : Bool) → member n i ≡ b
        → (member (bit_and c (others w i)) n || member (bit_and c (others w i) * 2 ^ 2 ^ i) n) ≡ member c (with_place w n i false)
    go true e =
        let k : ℕ = with_place w n i false in
        let q : 2 ^ i + k ≡ n = place_down w n i h l e in
        let here : member (bit_and c (others w i)) n ≡ false = at n h ∙ rw e (and-false (member c n)) in
        let there : member (bit_and c (others w i) * 2 ^ 2 ^ i) n ≡ member c k =
        ap (member (bit_and c (others w i) * 2 ^ 2 ^ i)) (sym q) ∙ member-shl (bit_and c (others w i)) (2 ^ i) k
        ∙ at k (place-lt w n i false) ∙ rw (member-set w n i false l) (and-true (member c k)) in
        ap₂ ◌||◌ here there
    go false e =
        let here : member (bit_and c (others w i)) n ≡ member c n = at n h ∙ rw e (and-true (member c n)) in
        ap₂ ◌||◌ here (none e (dec_lt n (2 ^ i))) ∙ or-false (member c n) ∙ ap (member c) (sym (place_same w n i false h (λ k. e)))

pub reduce-aborted : (w i : ℕ) {c m o s : ℕ} → i < w → c < 2 ^ 2 ^ w → m ≡ completed w i → o ≡ complement w m → s ≡ 2 ^ i
    → bit_or (bit_and c o) (bit_and c o * 2 ^ s % 2 ^ 2 ^ w) ≡ reduced w c i false
unfolding reduced
reduce-aborted w i {c} l hc q s d =
    let t : ℕ = bit_and c (others w i) in
    let ht : t < 2 ^ 2 ^ w = lt_of_le_of_lt (and_le_l c (others w i)) hc in
    rw (s, q, d)
    (is-set_of (2 ^ w) (bit_or t (t * 2 ^ 2 ^ i % 2 ^ 2 ^ w)) (λ a. member c (with_place w a i false))
    (or_lt (2 ^ w) t (t * 2 ^ 2 ^ i % 2 ^ 2 ^ w) ht (mod-lt (t * 2 ^ 2 ^ i) (pow_pos (2 ^ w))))
    (λ n h. member-or t (t * 2 ^ 2 ^ i % 2 ^ 2 ^ w) n ∙ ap (λ (x : Bool). member t n || x) (member-mod (2 ^ w) (t * 2 ^ 2 ^ i) n h) ∙ aborted-at w i c n l h))

-- ---- `1 << i` is a distance that a shift takes

pub shift-lt : (w i : ℕ) → i < w → i < 2 ^ w → 1 * 2 ^ i % 2 ^ 2 ^ w < 2 ^ w
shift-lt w i h l = rw (one_shl (2 ^ w) i l) (pow-lt h)
