-- "Ready. Computing to waiting." (document 01, Events)
use Rattle.std.specs.Prelude.{not, [], ◌∷◌, ℕ, set}
use Rattle.book.specs.declared.Refusal.TheVariants.{NoDistrict, NotOpen, NotOnIt, Unsound}
use Rattle.book.specs.declared.Book.{Book}
use Rattle.book.specs.declared.Open.{Open}
use Rattle.book.specs.declared.Done.{Done}
use Rattle.book.specs.Answers.{Answer, first_of}
use Rattle.book.specs.Book.{record_at, place_of, including, with_records, with_open, open_of}
use Rattle.book.specs.Records.{computing_on, ready_record}
use Rattle.book.specs.Transactions.{unsound, not_open, no_district, done}

-- 15, 4, 1, 9: "ready: district not computing on it"
unfoldable pub ready_answer : ℕ → Book → ℕ → ℕ → Answer
ready_answer w b n d =
    first_of (
    (unsound w b, Unsound)
    ∷ (not_open w b n, NotOpen)
    ∷ (no_district b d, NoDistrict)
    ∷ (not (computing_on n (record_at b d)), NotOnIt)
    ∷ []
    )

-- an open transaction to which district d reported ready
abbrev pub reported : ℕ → Open → Open
reported d o = record { number = o.number; touched = o.touched; ready = including o.ready d; gave = o.gave; decision = o.decision }

-- district d waits on the transaction number n, and is in its ready set
unfoldable pub readied : ℕ → Book → ℕ → ℕ → Book
readied w b n d =
    with_open (with_records b (set b.records d (ready_record (record_at b d))))
    (set b.«open» (place_of w b n) (reported d (open_of w b n)))

-- the call: transaction number n, district d
unfoldable pub ready : ℕ → Book → ℕ → ℕ → Done
ready w b n d = done w (ready_answer w b n d) (readied w b n d) b
