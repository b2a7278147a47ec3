-- A call is accepted where no test holds.
use mathlib.Core.Path.{◌≡◌, refl}
use mathlib.Core.Bool.{Bool, true, false, false≢true}
use mathlib.Core.List.{List, ◌∷◌}
use lib.Dec.{eqb}
use Rattle.std.specs.Prelude.{Ok, Err}
use Rattle.std.specs.Result.{result_and}
use Rattle.book.specs.declared.Refusal.{Refusal}
use Rattle.book.specs.declared.Refusal.TheVariants.{NoDistrict, NoItem, BadProgram, NotOpen, NotIdle, AllOpen, NumbersGiven, TooManyValues, NotOnIt, AlreadyDecided, NotReady, NotDecided, Malformed, TooLong, Unsound, ShortBuffer}
use Rattle.book.specs.Answers.{Answer, answer_number, accepted, first_of}

-- the number 0 is given for an accepted call alone
pub accepted-number : (a : Answer) → accepted a ≡ eqb (answer_number a) 0
accepted-number (Ok x) = refl
accepted-number (Err NoDistrict) = refl
accepted-number (Err NoItem) = refl
accepted-number (Err BadProgram) = refl
accepted-number (Err NotOpen) = refl
accepted-number (Err NotIdle) = refl
accepted-number (Err AllOpen) = refl
accepted-number (Err NumbersGiven) = refl
accepted-number (Err TooManyValues) = refl
accepted-number (Err NotOnIt) = refl
accepted-number (Err AlreadyDecided) = refl
accepted-number (Err NotReady) = refl
accepted-number (Err NotDecided) = refl
accepted-number (Err Malformed) = refl
accepted-number (Err TooLong) = refl
accepted-number (Err Unsound) = refl
accepted-number (Err ShortBuffer) = refl

pub is-accepted : (a : Answer) → accepted a ≡ true → a ≡ Ok tt
is-accepted (Ok x) e = refl
is-accepted (Err r) e = absurd (false≢true e)

-- where a call is accepted, no test holds
pub test-false : (t : Bool) (r : Refusal) (more : List (Bool × Refusal)) → accepted (first_of ((t, r) ∷ more)) ≡ true → t ≡ false
unfolding first_of
test-false true r more e = absurd (false≢true e)
test-false false r more e = refl

-- and the later tests decide
pub later-accepted : (t : Bool) (r : Refusal) (more : List (Bool × Refusal)) → accepted (first_of ((t, r) ∷ more)) ≡ true → accepted (first_of more) ≡ true
unfolding first_of
later-accepted true r more e = absurd (false≢true e)
later-accepted false r more e = e

-- what a call gives beside its answer, if it is accepted
pub and-accepted : {A : Type 0} (a : Answer) {x y : A} → Ok x ≡ result_and a (Ok y) → (a ≡ Ok tt) × (x ≡ y)
and-accepted (Ok u) e = (refl, cc)
and-accepted (Err r) e = cc

pub and-refused : {A : Type 0} (a : Answer) (y : A) {r : Refusal} → Err r ≡ result_and a (Ok y) → a ≡ Err r
and-refused (Ok u) y e = cc
and-refused (Err q) y e = cc
