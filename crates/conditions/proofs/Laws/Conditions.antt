-- The members of each condition that the code makes, and what it is to depend on a place. For any number w of places.
use mathlib.Core.Path.{◌≡◌, refl, sym, ap, ap₂, ◌∙◌, fun_ext}
use mathlib.Core.Bool.{Bool, true, false, not, ◌&&◌, ◌||◌, cond, true≢false}
use Prim.Native.Nat.{ℕ, zero, suc, ◌/◌, ◌^◌, ◌≤◌, ◌<◌}
use lib.Dec.{eqb}
use lib.Count.{count_trailing_zeros}
use lib.Pow.{pow_pos}
use borrow.Author.Tests.{not-true, eq-eqb, eqb-true, eqb-false}
use Rattle.conditions.specs.Below.{first}
use Rattle.conditions.specs.Sets.{member, set_of}
use Rattle.conditions.specs.Places.{places, with_place}
use Rattle.conditions.specs.Conditions.{number, full, always, union, intersection, complement, empty, lowest, completed, selected, reduced, differ, depends_on}
use Rattle.conditions.proofs.Laws.Below.{or_left, by_cases, both_ways, all-at, all_of, any_none, none_any}
use Rattle.conditions.proofs.Laws.Sets.{digit-under, member-zero, member-suc, member-past, member-none, same-members, set_of-lt, member-set_of}
use Rattle.conditions.proofs.Laws.Places.{place-lt, place-past, place_same, place_twice, place-swap}

-- the associated constant is the full set
pub always-full : number always ≡ full places
unfolding full set_of
always-full = refl

-- ---- members

pub member-full : (w a : ℕ) → a < 2 ^ w → member (full w) a ≡ true
unfolding full
member-full w a h = member-set_of (2 ^ w) (λ a. true) a h

pub member_union : (w c d a : ℕ) → a < 2 ^ w → member (union w c d) a ≡ (member c a || member d a)
unfolding union
member_union w c d a h = member-set_of (2 ^ w) (λ a. member c a || member d a) a h

pub member-intersection : (w c d a : ℕ) → a < 2 ^ w → member (intersection w c d) a ≡ (member c a && member d a)
unfolding intersection
member-intersection w c d a h = member-set_of (2 ^ w) (λ a. member c a && member d a) a h

pub member-complement : (w c a : ℕ) → a < 2 ^ w → member (complement w c) a ≡ not (member c a)
unfolding complement
member-complement w c a h = member-set_of (2 ^ w) (λ a. not (member c a)) a h

pub member-completed : (w i a : ℕ) → a < 2 ^ w → member (completed w i) a ≡ member a i
unfolding completed
member-completed w i a h = member-set_of (2 ^ w) (λ a. member a i) a h

pub member-selected : (w i c d a : ℕ) → a < 2 ^ w → member (selected w i c d) a ≡ cond (member a i) (member c a) (member d a)
unfolding selected
member-selected w i c d a h = member-set_of (2 ^ w) (λ a. cond (member a i) (member c a) (member d a)) a h

pub member-reduced : (w c i : ℕ) (b : Bool) (a : ℕ) → a < 2 ^ w → member (reduced w c i b) a ≡ member c (with_place w a i b)
unfolding reduced
member-reduced w c i b a h = member-set_of (2 ^ w) (λ a. member c (with_place w a i b)) a h

-- ---- each is the number of a condition of w places

pub full-lt : (w : ℕ) → full w < 2 ^ 2 ^ w
unfolding full
full-lt w = set_of-lt (2 ^ w) (λ a. true)

pub union-lt : (w c d : ℕ) → union w c d < 2 ^ 2 ^ w
unfolding union
union-lt w c d = set_of-lt (2 ^ w) (λ a. member c a || member d a)

pub intersection-lt : (w c d : ℕ) → intersection w c d < 2 ^ 2 ^ w
unfolding intersection
intersection-lt w c d = set_of-lt (2 ^ w) (λ a. member c a && member d a)

completed-lt : (w i : ℕ) → completed w i < 2 ^ 2 ^ w
unfolding completed
completed-lt w i = set_of-lt (2 ^ w) (λ a. member a i)

pub selected-lt : (w i c d : ℕ) → selected w i c d < 2 ^ 2 ^ w
unfolding selected
selected-lt w i c d = set_of-lt (2 ^ w) (λ a. cond (member a i) (member c a) (member d a))

pub reduced-lt : (w c i : ℕ) (b : Bool) → reduced w c i b < 2 ^ 2 ^ w
unfolding reduced
reduced-lt w c i b = set_of-lt (2 ^ w) (λ a. member c (with_place w a i b))

-- ---- empty conditions

pub empty-none : (w c : ℕ) → empty w c ≡ true → (a : ℕ) → a < 2 ^ w → member c a ≡ false
unfolding empty
empty-none w c e a h = not-true _ (all-at (2 ^ w) (λ a. not (member c a)) e a h)

pub none-empty : (w c : ℕ) → ((a : ℕ) → a < 2 ^ w → member c a ≡ false) → empty w c ≡ true
unfolding empty
none-empty w c f = all_of (2 ^ w) (λ a. not (member c a)) (λ a h. ap not (f a h))

pub full-filled : (w : ℕ) → empty w (full w) ≡ false
full-filled w = by_cases (empty w (full w)) (λ e. absurd (true≢false (sym (member-full w 0 (pow_pos w)) ∙ empty-none w (full w) e 0 (pow_pos w)))) (λ e. e)

-- what is not empty stays so in a union
pub union-filled : (w c d : ℕ) → empty w c ≡ false → empty w (union w c d) ≡ false
union-filled w c d e =
    by_cases (empty w (union w c d))
    (λ u. absurd (true≢false (sym (none-empty w c (λ a h. or_left (member c a) (member d a) (sym (member_union w c d a h) ∙ empty-none w (union w c d) u a h))) ∙ e)))
    (λ u. u)

-- the one empty condition is written 0
pub empty-zero : (w c : ℕ) → c < 2 ^ 2 ^ w → empty w c ≡ eqb c 0
empty-zero w c h =
    both_ways (empty w c) (eqb c 0)
    (λ e. eq-eqb c 0 (same-members (2 ^ w) c 0 h (pow_pos (2 ^ w)) (λ a l. empty-none w c e a l ∙ sym (member-none a))))
    (λ z. none-empty w c (λ a l. ap (λ (m : ℕ). member m a) (eqb-true c 0 z) ∙ member-none a))

-- the zeros below the lowest 1 are as many as the lowest member's number
trailing-first : (k c : ℕ) → count_trailing_zeros k c ≡ first k (member c)
unfolding count_trailing_zeros first
trailing-first zero c = refl
trailing-first (suc k) c =
    digit-under c (count_trailing_zeros k (c / 2))
    ∙ ap₂ (λ (b : Bool) (t : ℕ). cond b 0 (suc t)) (sym (member-zero c)) (trailing-first k (c / 2) ∙ ap (first k) (fun_ext (λ n. sym (member-suc c n))))

pub trailing-lowest : (w c : ℕ) → count_trailing_zeros (2 ^ w) c ≡ lowest w c
unfolding lowest
trailing-lowest w c = trailing-first (2 ^ w) c

-- ---- dependence on a place

same-not-differ : (x y : Bool) → differ x y ≡ false → x ≡ y
same-not-differ true true e = refl
same-not-differ true false e = e
same-not-differ false true e = sym e
same-not-differ false false e = refl

not-differ-same : (x y : Bool) → x ≡ y → differ x y ≡ false
not-differ-same x y e = rw e (self y)
  where
    self : (y : Bool) → differ y y ≡ false
    self true = refl
    self false = refl

-- where a condition does not depend on a place, setting the place either way gives the same membership
pub depends-not : (w c i : ℕ) → depends_on w c i ≡ false → (a : ℕ) → a < 2 ^ w → member c (with_place w a i true) ≡ member c (with_place w a i false)
unfolding depends_on
depends-not w c i e a h =
    same-not-differ _ _ (any_none (2 ^ w) (λ a. differ (member c (with_place w a i true)) (member c (with_place w a i false))) e a h)

pub not-depends : (w c i : ℕ) → ((a : ℕ) → a < 2 ^ w → member c (with_place w a i true) ≡ member c (with_place w a i false)) → depends_on w c i ≡ false
unfolding depends_on
not-depends w c i f =
    none_any (2 ^ w) (λ a. differ (member c (with_place w a i true)) (member c (with_place w a i false))) (λ a h. not-differ-same _ _ (f a h))

-- changing the place changes nothing
pub unchanged : (w c i : ℕ) → depends_on w c i ≡ false → (b : Bool) (a : ℕ) → a < 2 ^ w → member c (with_place w a i b) ≡ member c a
unchanged w c i e b a h =
    at b ∙ sym (at (member a i)) ∙ ap (member c) (place_same w a i (member a i) h (λ l. refl))
  where
    at : (x : Bool) → member c (with_place w a i x) ≡ member c (with_place w a i true)
    at true = refl
    at false = sym (depends-not w c i e a h)

reduced-same : (w c i : ℕ) (b : Bool) → c < 2 ^ 2 ^ w → depends_on w c i ≡ false → reduced w c i b ≡ c
reduced-same w c i b h e =
    same-members (2 ^ w) (reduced w c i b) c (reduced-lt w c i b) h (λ a l. member-reduced w c i b a l ∙ unchanged w c i e b a l)

-- a place past the last one is no place of a condition
pub depends-past : (w c i : ℕ) → w ≤ i → depends_on w c i ≡ false
depends-past w c i l = not-depends w c i (λ a h. ap (member c) (place-past w a i true h l ∙ sym (place-past w a i false h l)))

pub reduced-past : (w c i : ℕ) (b : Bool) → c < 2 ^ 2 ^ w → w ≤ i → reduced w c i b ≡ c
reduced-past w c i b h l = reduced-same w c i b h (depends-past w c i l)

pub completed-past : (w i : ℕ) → w ≤ i → completed w i ≡ 0
completed-past w i l =
    same-members (2 ^ w) (completed w i) 0 (completed-lt w i) (pow_pos (2 ^ w))
    (λ a h. member-completed w i a h ∙ member-past w a i h l ∙ sym (member-none a))

-- reducing by a place removes the dependence on it
pub reduced-free : (w c i : ℕ) (b : Bool) → depends_on w (reduced w c i b) i ≡ false
reduced-free w c i b = not-depends w (reduced w c i b) i (λ a h. at a true ∙ sym (at a false))
  where
    at : (a : ℕ) (x : Bool) → member (reduced w c i b) (with_place w a i x) ≡ member c (with_place w a i b)
    at a x = member-reduced w c i b (with_place w a i x) (place-lt w a i x) ∙ ap (member c) (place_twice w a i x b)

-- and adds none
pub reduced-depends-not : (w c i : ℕ) (b : Bool) (j : ℕ) → depends_on w c j ≡ false → depends_on w (reduced w c i b) j ≡ false
reduced-depends-not w c i b j e = by_place (eqb j i) refl
  where
    at : (j ≡ i → ⊥) → (a : ℕ) (x : Bool) → member (reduced w c i b) (with_place w a j x) ≡ member c (with_place w (with_place w a i b) j x)
    at apart a x = member-reduced w c i b (with_place w a j x) (place-lt w a j x) ∙ ap (member c) (place-swap w a j i x b apart)

    by_place : (t : Bool) → eqb j i ≡ t → depends_on w (reduced w c i b) j ≡ false
    by_place true t = ap (depends_on w (reduced w c i b)) (eqb-true j i t) ∙ reduced-free w c i b
    by_place false t =
        not-depends w (reduced w c i b) j
        (λ a h. at (eqb-false j i t) a true ∙ depends-not w c j e (with_place w a i b) (place-lt w a i b) ∙ sym (at (eqb-false j i t) a false))

-- a union depends on nothing more than its parts
pub union-depends-not : (w c d i : ℕ) → depends_on w c i ≡ false → depends_on w d i ≡ false → depends_on w (union w c d) i ≡ false
union-depends-not w c d i e f =
    not-depends w (union w c d) i
    (λ a h. member_union w c d (with_place w a i true) (place-lt w a i true) ∙ ap₂ ◌||◌ (depends-not w c i e a h) (depends-not w d i f a h)
    ∙ sym (member_union w c d (with_place w a i false) (place-lt w a i false)))

-- a condition depends on a place where the two ways to reduce it differ
pub depends-reduced : (w c i : ℕ) → depends_on w c i ≡ not (eqb (reduced w c i true) (reduced w c i false))
depends-reduced w c i =
    by_cases (eqb (reduced w c i true) (reduced w c i false))
    (λ e. rw e (not-depends w c i (λ a h. sym (member-reduced w c i true a h) ∙ ap (λ (m : ℕ). member m a) (eqb-true _ _ e) ∙ member-reduced w c i false a h)))
    (λ e. by_cases (depends_on w c i) (λ d. rw e d)
    (λ d. absurd (eqb-false _ _ e (same-members (2 ^ w) (reduced w c i true) (reduced w c i false) (reduced-lt w c i true) (reduced-lt w c i false)
    (λ a h. member-reduced w c i true a h ∙ depends-not w c i d a h ∙ sym (member-reduced w c i false a h))))))
