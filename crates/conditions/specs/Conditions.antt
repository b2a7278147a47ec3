-- "A condition is a set of assignments." (document 01, The book) Each is written as a number, over w places.
use Rattle.std.specs.Prelude.{Bool, true, false, not, ◌&&◌, ◌||◌, cond, ℕ, ◌^◌}
use Rattle.conditions.specs.declared.condition.Condition.{Condition}
use Rattle.conditions.specs.Below.{all, any, first}
use Rattle.conditions.specs.Sets.{member, set_of}
use Rattle.conditions.specs.Places.{with_place}

-- the number that a condition of the code stands for
abbrev pub number : Condition → ℕ
number c = c.0

-- the condition of the code that a number stands for
abbrev pub of_number : ℕ → Condition
of_number n = record { 0 = n }

-- the condition that always applies
unfoldable pub full : ℕ → ℕ
full w = set_of (2 ^ w) (λ a. true)

-- the same in the code: the associated constant FULL
abbrev pub always : Condition
always = record { 0 = 0xffff_ffff_ffff_ffff }

-- the assignments in c, in d or in both
unfoldable pub union : ℕ → ℕ → ℕ → ℕ
union w c d = set_of (2 ^ w) (λ a. member c a || member d a)

-- the assignments in both
unfoldable pub intersection : ℕ → ℕ → ℕ → ℕ
intersection w c d = set_of (2 ^ w) (λ a. member c a && member d a)

-- the assignments that are not in c
unfoldable pub complement : ℕ → ℕ → ℕ
complement w c = set_of (2 ^ w) (λ a. not (member c a))

-- no assignment is in c
unfoldable pub empty : ℕ → ℕ → Bool
empty w c = all (2 ^ w) (λ a. not (member c a))

-- the lowest assignment in c, or 2 ^ w where it is empty
unfoldable pub lowest : ℕ → ℕ → ℕ
lowest w c = first (2 ^ w) (member c)

-- the assignments in which place i is completed; none, where there is no place i
unfoldable pub completed : ℕ → ℕ → ℕ
completed w i = set_of (2 ^ w) (λ a. member a i)

-- the assignments of c in which place i is completed, and those of d in which it is not
unfoldable pub selected : ℕ → ℕ → ℕ → ℕ → ℕ
selected w i c d = set_of (2 ^ w) (λ a. cond (member a i) (member c a) (member d a))

-- the assignments that are in c once place i is set to the outcome b
unfoldable pub reduced : ℕ → ℕ → ℕ → Bool → ℕ
reduced w c i b = set_of (2 ^ w) (λ a. member c (with_place w a i b))

-- exactly one of two holds
abbrev pub differ : Bool → Bool → Bool
differ x y = cond x (not y) y

-- "It depends on a place if changing that place alone can change membership."
unfoldable pub depends_on : ℕ → ℕ → ℕ → Bool
depends_on w c i = any (2 ^ w) (λ a. differ (member c (with_place w a i true)) (member c (with_place w a i false)))
