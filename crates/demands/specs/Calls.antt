-- "After any calls on an opened book, refusals among them" (demand 3): calls as data, what each is answered, and the book that a history of them leaves.
-- Every answer and every book here is that of the definition which the contract of the call cites.
use Rattle.std.specs.Prelude.{List, ℕ}
use Rattle.book.specs.Answers.{Answer}
use Rattle.book.specs.declared.Book.{Book}
use Rattle.book.specs.Begin.{begin}
use Rattle.book.specs.Ready.{ready}
use Rattle.book.specs.GiveUp.{give_up}
use Rattle.book.specs.Decide.{complete, abort}
use Rattle.book.specs.Hear.{hear}
use Rattle.book.specs.Show.{show_answer}

-- a call, with any arguments: a program's bytes; a transaction's number and a district; a transaction's number; an item and the buffer lent for its text
pub data Call : Type 0 where
  begins_with : List ℕ → Call
  readies : ℕ → ℕ → Call
  gives_up : ℕ → ℕ → Call
  completes : ℕ → Call
  aborts : ℕ → Call
  hears : ℕ → ℕ → Call
  shows : ℕ → List ℕ → Call

-- the answer to a call on the book b
abbrev pub answer_to : ℕ → Book → Call → Answer
answer_to w b (begins_with bytes) = (begin w b bytes).answer
answer_to w b (readies n d) = (ready w b n d).answer
answer_to w b (gives_up n d) = (give_up w b n d).answer
answer_to w b (completes n) = (complete w b n).answer
answer_to w b (aborts n) = (abort w b n).answer
answer_to w b (hears n d) = (hear w b n d).answer
answer_to w b (shows i buf) = show_answer w b i buf

-- the number that it returns: begin alone returns one
abbrev pub number_given : ℕ → Book → Call → ℕ
number_given w b (begins_with bytes) = (begin w b bytes).number.0
number_given w b (readies n d) = 0
number_given w b (gives_up n d) = 0
number_given w b (completes n) = 0
number_given w b (aborts n) = 0
number_given w b (hears n d) = 0
number_given w b (shows i buf) = 0

-- the book that it returns; show returns none, and the next call takes the one that it was handed
abbrev pub book_after : ℕ → Book → Call → Book
book_after w b (begins_with bytes) = (begin w b bytes).book
book_after w b (readies n d) = (ready w b n d).book
book_after w b (gives_up n d) = (give_up w b n d).book
book_after w b (completes n) = (complete w b n).book
book_after w b (aborts n) = (abort w b n).book
book_after w b (hears n d) = (hear w b n d).book
book_after w b (shows i buf) = b

-- any calls, one after the other: none yet, or a history and then one call more
infixl 20 ◌then◌
pub data History : Type 0 where
  nothing : History
  ◌then◌ : History → Call → History

-- "Each later call takes the book that the call before it returned.": the book that a history on the book b leaves
abbrev pub after_calls : ℕ → Book → History → Book
after_calls w b nothing = b
after_calls w b (h then c) = book_after w (after_calls w b h) c
