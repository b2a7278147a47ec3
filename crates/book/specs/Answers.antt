-- "Every refusal returns its number" and "Order: 15 first. .." (document 01, Answer numbers)
use Rattle.std.specs.Prelude.{Bool, cond, List, [], ◌∷◌, ℕ, is_ok, Result, Ok, Err}
use Rattle.book.specs.declared.Refusal.{Refusal}
use Rattle.book.specs.declared.Refusal.TheVariants.{NoDistrict, NoItem, BadProgram, NotOpen, NotIdle, AllOpen, NumbersGiven, TooManyValues, NotOnIt, AlreadyDecided, NotReady, NotDecided, Malformed, TooLong, Unsound, ShortBuffer}

-- what a call answers: it is accepted, or refused
abbrev pub Answer : Type 0
Answer = Result Unit Refusal

-- the document's number for each refusal
abbrev pub refusal_number : Refusal → ℕ
refusal_number NoDistrict = 1
refusal_number NoItem = 2
refusal_number BadProgram = 3
refusal_number NotOpen = 4
refusal_number NotIdle = 5
refusal_number AllOpen = 6
refusal_number NumbersGiven = 7
refusal_number TooManyValues = 8
refusal_number NotOnIt = 9
refusal_number AlreadyDecided = 10
refusal_number NotReady = 11
refusal_number NotDecided = 12
refusal_number Malformed = 13
refusal_number TooLong = 14
refusal_number Unsound = 15
refusal_number ShortBuffer = 16

-- and for each answer: "0: accepted"
abbrev pub answer_number : Answer → ℕ
answer_number (Ok x) = 0
answer_number (Err r) = refusal_number r

-- the call is accepted
abbrev pub accepted : Answer → Bool
accepted a = is_ok a

-- tests in their order, each with the refusal that it answers where it holds: the first that holds decides, and where none does the call is accepted
unfoldable pub first_of : List (Bool × Refusal) → Answer
first_of [] = Ok tt
first_of (x ∷ more) = cond x.0 (Err x.1) (first_of more)
