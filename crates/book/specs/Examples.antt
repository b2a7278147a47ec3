-- "Marked examples": 1 to 9 of document 01, on books that are opened and then worked by the calls themselves; crate demands lists all ten.
use Rattle.std.specs.Prelude.{◌≡◌, List, [], ◌∷◌, ◌++◌, ℕ, ℤ, pos, negsuc, Ok}
use Rattle.conditions.specs.Places.{places}
use Rattle.conditions.specs.Conditions.{intersection, complement, completed}
use Rattle.polyvalues.specs.declared.polyvalue.Pair.{Pair}
use Rattle.polyvalues.specs.Pairs.{pair, certain}
use Rattle.polyvalues.specs.Polyvalues.{in_use}
use Rattle.book.specs.declared.Book.{Book}
use Rattle.book.specs.Book.{item_at, open_at}
use Rattle.book.specs.Open.{opened}
use Rattle.book.specs.Begin.{begin}
use Rattle.book.specs.Ready.{ready}
use Rattle.book.specs.GiveUp.{give_up}
use Rattle.book.specs.Decide.{complete}
use Rattle.book.specs.Hear.{hear}

-- ---- what is spoken of

-- a book with one district and one item, of this value
unfoldable pub book_of : ℤ → Book
book_of v = opened places 1 (record { district = 0; value = v } ∷ [])

-- ---- the bytes of a step on item 0

-- Need 4
abbrev pub need4 : List ℕ
need4 = 1 ∷ 0 ∷ 0 ∷ 4 ∷ []

-- Need 5
abbrev pub need5 : List ℕ
need5 = 1 ∷ 0 ∷ 0 ∷ 5 ∷ []

-- Add 1
abbrev pub add1 : List ℕ
add1 = 2 ∷ 0 ∷ 0 ∷ 1 ∷ []

-- Add −1
abbrev pub add_minus1 : List ℕ
add_minus1 = 2 ∷ 0 ∷ 255 ∷ 255 ∷ []

-- Add −2
abbrev pub add_minus2 : List ℕ
add_minus2 = 2 ∷ 0 ∷ 255 ∷ 254 ∷ []

-- Add −4
abbrev pub add_minus4 : List ℕ
add_minus4 = 2 ∷ 0 ∷ 255 ∷ 252 ∷ []

-- Set 7
abbrev pub set7 : List ℕ
set7 = 3 ∷ 0 ∷ 0 ∷ 7 ∷ []

-- ---- books

-- a program begins, its district is ready and gives up while waiting: the item is unsure of the transaction number n
unfoldable pub left_open : Book → List ℕ → ℕ → Book
left_open b program n = (give_up places (ready places (begin places b program).book n 0).book n 0).book

-- "Held {4 if T1, 5 if !T1}": 5, and a transaction that takes 1 away, at place 0
unfoldable pub unsure : Book
unsure = left_open (book_of (pos 5)) add_minus1 1

-- "Number 2 begun as in 5, then given up while waiting"
unfoldable pub twice : Book
twice = left_open unsure (need4 ++ add_minus4) 2

-- the same item, "T1 complete": decided, and heard in its district
unfoldable pub told : Book
told = (hear places (complete places twice 1).book 1 0).book

-- ---- conditions

-- the transaction at place 0 completes
abbrev pub T1 : ℕ
T1 = completed places 0

-- the one at place 1 does
abbrev pub T2 : ℕ
T2 = completed places 1

-- it does not
abbrev pub aborted : ℕ → ℕ
aborted c = complement places c

-- both hold
abbrev pub both : ℕ → ℕ → ℕ
both c d = intersection places c d

-- an accepted begin with this grant and these pending pairs of item 0
pub record Gives (b : Book) (program : List ℕ) (granted : ℕ) (ps : List Pair) : Type 0 where
  pub answer : (begin places b program).answer ≡ Ok tt
  pub grant : (begin places b program).grant ≡ granted
  pub pending : in_use (item_at (begin places b program).book 0).pending ≡ ps

-- places 0 and 1 have the transactions of these numbers (0: free), and item 0 holds these pairs
pub record Holds (b : Book) (m n : ℕ) (ps : List Pair) : Type 0 where
  pub zeroth : (open_at b 0).number.0 ≡ m
  pub first : (open_at b 1).number.0 ≡ n
  pub held : in_use (item_at b 0).held ≡ ps

-- ---- what is said

-- "1. 9,998 add 1 grants 9,999."
abbrev pub Example1 : Type 0
Example1 = Gives (book_of (pos 9998)) add1 1 (certain places (pos 9999))

-- "2. 9,999 add 1 declines.": and changes nothing
abbrev pub Example2 : Type 0
Example2 = Gives (book_of (pos 9999)) add1 0 (certain places (pos 9999))

-- "3. −9,999 add −1 declines."
abbrev pub Example3 : Type 0
Example3 = Gives (book_of (negsuc 9998)) add_minus1 0 (certain places (negsuc 9998))

-- "4. 1 add −2 gives −1."
abbrev pub Example4 : Type 0
Example4 = Gives (book_of (pos 1)) add_minus2 1 (certain places (negsuc 0))

-- "5. Held {4 if T1, 5 if !T1}: Need 4, Add −4 grants 1; pending 0 if T1, 1 if !T1."
pub record Example5 : Type 0 where
  pub holds : Holds unsure 1 0 (pair (pos 4) T1 ∷ pair (pos 5) (aborted T1) ∷ [])
  pub gives : Gives unsure (need4 ++ add_minus4) 1 (pair (pos 0) T1 ∷ pair (pos 1) (aborted T1) ∷ [])

-- "6. Same item, Need 5 grants 2.": and changes nothing
abbrev pub Example6 : Type 0
Example6 = Gives unsure need5 2 (pair (pos 4) T1 ∷ pair (pos 5) (aborted T1) ∷ [])

-- "7. Same item, Set 7: one pair."
abbrev pub Example7 : Type 0
Example7 = Gives unsure set7 1 (certain places (pos 7))

-- "8. Number 2 begun as in 5, then given up while waiting: `0:T1&T2 1:!T1&T2 4:T1&!T2 5:!T1&!T2`."
abbrev pub Example8 : Type 0
Example8 =
    Holds twice 1 2
    (pair (pos 0) (both T1 T2) ∷ pair (pos 1) (both (aborted T1) T2) ∷ pair (pos 4) (both T1 (aborted T2)) ∷ pair (pos 5) (both (aborted T1) (aborted T2)) ∷ [])

-- "9. That item, T1 complete: `0:T2 4:!T2`.": number 1 is closed
abbrev pub Example9 : Type 0
Example9 = Holds told 0 2 (pair (pos 0) T2 ∷ pair (pos 4) (aborted T2) ∷ [])
