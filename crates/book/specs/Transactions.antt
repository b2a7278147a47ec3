-- "Events on a transaction: 4, 1, then 9, or 10, 11, or 12." (document 01, Answer numbers): what these events share.
use Rattle.std.specs.Prelude.{Bool, not, cond, ℕ, ltb}
use Rattle.book.specs.declared.Book.{Book}
use Rattle.book.specs.declared.Done.{Done}
use Rattle.book.specs.Answers.{Answer, accepted}
use Rattle.book.specs.Book.{place_of}
use Rattle.book.specs.SoundTest.{sound}
use Rattle.book.specs.Forget.{forget}

-- "15: the book handed in is not sound"
abbrev pub unsound : ℕ → Book → Bool
unsound w b = not (sound w b)

-- "4: no open transaction has the number"
abbrev pub not_open : ℕ → Book → ℕ → Bool
not_open w b n = not (ltb (place_of w b n) w)

-- "1: district number not below the count"
abbrev pub no_district : Book → ℕ → Bool
no_district b d = not (ltb d b.districts)

-- accepted: the book after the event, with forgetting "at the end". Refused: "leaves the book .. unchanged"
unfoldable pub done : ℕ → Answer → Book → Book → Done
done w a after before = let forgotten : Book = forget w after in record { answer = a; book = cond (accepted a) forgotten before }
