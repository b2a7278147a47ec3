-- "Decide complete or abort." (document 01, Events)
use Rattle.std.specs.Prelude.{Bool, not, ◌&&◌, [], ◌∷◌, ℕ, set}
use Rattle.conditions.specs.Below.{any}
use Rattle.conditions.specs.Sets.{member}
use Rattle.book.specs.declared.Refusal.TheVariants.{NotOpen, AlreadyDecided, NotReady, Unsound}
use Rattle.book.specs.declared.Book.{Book}
use Rattle.book.specs.declared.decide.Decision.{Decision}
use Rattle.book.specs.declared.decide.Decision.TheVariants.{Completed, Aborted}
use Rattle.book.specs.declared.Open.{Open}
use Rattle.book.specs.declared.Done.{Done}
use Rattle.book.specs.Answers.{Answer, first_of}
use Rattle.book.specs.Book.{place_of, with_open, open_of}
use Rattle.book.specs.Forget.{decided}
use Rattle.book.specs.Transactions.{unsound, not_open, done}

-- "a touched district has not reported ready"
unfoldable pub some_not_ready : Book → Open → Bool
some_not_ready b o = any b.districts (λ d. member o.touched d && not (member o.ready d))

-- complete: 15, 4, 10 "already decided, either way", 11
unfoldable pub complete_answer : ℕ → Book → ℕ → Answer
complete_answer w b n =
    first_of (
    (unsound w b, Unsound)
    ∷ (not_open w b n, NotOpen)
    ∷ (decided (open_of w b n), AlreadyDecided)
    ∷ (some_not_ready b (open_of w b n), NotReady)
    ∷ []
    )

-- abort: 15, 4, 10
unfoldable pub abort_answer : ℕ → Book → ℕ → Answer
abort_answer w b n =
    first_of (
    (unsound w b, Unsound)
    ∷ (not_open w b n, NotOpen)
    ∷ (decided (open_of w b n), AlreadyDecided)
    ∷ []
    )

-- the document's number for each decision: "1 completed, 2 aborted"
abbrev pub decision_number : Decision → ℕ
decision_number Completed = 1
decision_number Aborted = 2

-- an open transaction with its decision (1 completed, 2 aborted)
abbrev pub with_decision : ℕ → Open → Open
with_decision v o = record { number = o.number; touched = o.touched; ready = o.ready; gave = o.gave; decision = v }

-- the transaction number n has the decision v; nothing else changes
unfoldable pub decide : ℕ → Book → ℕ → ℕ → Book
decide w b n v = with_open b (set b.«open» (place_of w b n) (with_decision v (open_of w b n)))

-- the call: complete the transaction number n
unfoldable pub complete : ℕ → Book → ℕ → Done
complete w b n = done w (complete_answer w b n) (decide w b n 1) b

-- the call: abort it
unfoldable pub abort : ℕ → Book → ℕ → Done
abort w b n = done w (abort_answer w b n) (decide w b n 2) b
