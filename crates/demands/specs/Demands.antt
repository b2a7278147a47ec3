-- The customer's three demands, and the marked examples of document 01, as statements. Their proofs stand in ../proofs: whoever reads this file, and the definitions that it
-- names, has read what is proved. All of it holds for any number w of places but for the marked examples, which are of the code's places: `places`, in crate conditions.
use Rattle.std.specs.Prelude.{◌≡◌, Bool, true, false, not, ◌&&◌, ◌||◌, cond, List, [], ◌∷◌, ℕ, suc, ◌^◌, ◌≤◌, ◌<◌, eqb, ltb, ℤ, length, get_or}
use Rattle.conditions.specs.declared.condition.Condition.{Condition}
use Rattle.conditions.specs.declared.product.Product.{Product}
use Rattle.conditions.specs.Sets.{member, set_of}
use Rattle.conditions.specs.Places.{places, with_place}
use Rattle.conditions.specs.Conditions.{number}
use Rattle.conditions.specs.Text.{bytes as bytes_of}
use Rattle.conditions.specs.Written.{room, written}
use Rattle.conditions.specs.Example.{Example10}
use Rattle.polyvalues.specs.declared.polyvalue.Pair.{Pair}
use Rattle.polyvalues.specs.Pairs.{at, hits, asked}
use Rattle.polyvalues.specs.Asked.{asked_number}
use Rattle.polyvalues.specs.Polyvalues.{most_pairs, Complete, WellFormed, in_use}
use Rattle.polyvalues.specs.Operations.{reduce, select}
use Rattle.book.specs.declared.Book.{Book}
use Rattle.book.specs.declared.Open.{Open}
use Rattle.book.specs.declared.Opening.{Opening}
use Rattle.book.specs.declared.Record.{Record}
use Rattle.book.specs.declared.Step.{Step}
use Rattle.book.specs.Answers.{answer_number, accepted}
use Rattle.book.specs.Book.{most_districts, last_number, no_record, no_book, record_at, item_at, open_at, idle, is_open, place_of, free_place, some_depends, some_on, open_of}
use Rattle.book.specs.Programs.{steps, run, touches, some_step}
use Rattle.book.specs.Items.{there}
use Rattle.book.specs.Records.{computing_on, busy_on, begin_record, ready_record, hear_record}
use Rattle.book.specs.Forget.{decided, remembered}
use Rattle.book.specs.Transactions.{unsound, not_open, no_district}
use Rattle.book.specs.Open.{no_opening, good_opening, opened}
use Rattle.book.specs.Sound.{Sound}
use Rattle.book.specs.SoundTest.{sound}
use Rattle.book.specs.Begin.{bad_program, outside, held_at, grant, some_busy, too_many, touches_district, begin}
use Rattle.book.specs.Ready.{reported}
use Rattle.book.specs.GiveUp.{marked}
use Rattle.book.specs.Decide.{some_not_ready, with_decision}
use Rattle.book.specs.Hear.{outcome}
use Rattle.book.specs.Show.{held_line, show_answer, shown}
use Rattle.book.specs.Examples.{twice, told, Example1, Example2, Example3, Example4, Example5, Example6, Example7, Example8, Example9}
use Rattle.book.specs.Shaped.{Shaped, Whole}
use Rattle.sheet.specs.declared.events.Event.{Event}
use Rattle.sheet.specs.Readers.{wrong, right}
use Rattle.sheet.specs.Sections.{Sheet, sheet}
use Rattle.sheet.specs.Open.{most_bytes, open_sheet}
use Rattle.sheet.specs.Output.{output}
use Rattle.sheet.specs.Program.{by_calls, AsRead}
use Rattle.demands.specs.Calls.{Call, begins_with, readies, gives_up, completes, aborts, hears, shows, answer_to, number_given, book_after, History, after_calls}
use Rattle.demands.specs.Past.{Said, past_of, asks_begin, asks_complete, asks_abort, began, Guess, serial}
use Rattle.demands.specs.Playing.{IsCall, book_played, history_of}

-- ==== Demand 1

-- "Order: 15 first. Begin: 3, 2, 5, 6, 7, 8 .. Events on a transaction: 4, 1, then 9, or 10, 11, or 12. Show: 2, 16."
abbrev pub order_of : Call → List ℕ
order_of (begins_with bytes) = 15 ∷ 3 ∷ 2 ∷ 5 ∷ 6 ∷ 7 ∷ 8 ∷ []
order_of (readies n d) = 15 ∷ 4 ∷ 1 ∷ 9 ∷ []
order_of (gives_up n d) = 15 ∷ 4 ∷ 1 ∷ 9 ∷ []
order_of (completes n) = 15 ∷ 4 ∷ 10 ∷ 11 ∷ []
order_of (aborts n) = 15 ∷ 4 ∷ 10 ∷ []
order_of (hears n d) = 15 ∷ 4 ∷ 1 ∷ 12 ∷ []
order_of (shows i buf) = 15 ∷ 2 ∷ 16 ∷ []

-- the document's tests for a call, in this order
abbrev pub tests_of : ℕ → Book → Call → List Bool
tests_of w b (begins_with bytes) =
    unsound w b ∷ bad_program bytes ∷ some_step (outside b.count) (steps bytes) ∷ some_busy b (steps bytes) ∷ not (ltb (free_place w b) w) ∷ not (ltb b.last.0 last_number)
    ∷ too_many w b (steps bytes) ∷ []
tests_of w b (readies n d) = unsound w b ∷ not_open w b n ∷ no_district b d ∷ not (computing_on n (record_at b d)) ∷ []
tests_of w b (gives_up n d) = unsound w b ∷ not_open w b n ∷ no_district b d ∷ not (busy_on n (record_at b d)) ∷ []
tests_of w b (completes n) = unsound w b ∷ not_open w b n ∷ decided (open_of w b n) ∷ some_not_ready b (open_of w b n) ∷ []
tests_of w b (aborts n) = unsound w b ∷ not_open w b n ∷ decided (open_of w b n) ∷ []
tests_of w b (hears n d) = unsound w b ∷ not_open w b n ∷ no_district b d ∷ not (decided (open_of w b n)) ∷ []
tests_of w b (shows i buf) = unsound w b ∷ not (ltb i b.count) ∷ not (room buf 0 (held_line w b i)) ∷ []

-- the number of the first test that holds, and 0 where none does: "0: accepted"
abbrev pub first_number : List Bool → List ℕ → ℕ
first_number [] numbers = 0
first_number (t ∷ tests) [] = 0
first_number (t ∷ tests) (n ∷ numbers) = cond t n (first_number tests numbers)

-- what opening the sheet s gives: the answer's number, the place and the book
pub record SheetGives (w : ℕ) (s : List ℕ) (n p : ℕ) (b : Book) : Type 0 where
  pub answer : answer_number (open_sheet w s).answer ≡ n
  pub place : (open_sheet w s).place ≡ p
  pub book : (open_sheet w s).book ≡ b

pub record Demand1 (w : ℕ) : Type 0 where
  -- "Every call with every argument ends with an answer or one of the numbered refusals, given exactly when its row says."
  pub answers : (b : Book) (c : Call) → answer_number (answer_to w b c) ≡ first_number (tests_of w b c) (order_of c)
  -- "A refused call leaves the book .. as [it was] before it."
  pub refused : (b : Book) (c : Call) → accepted (answer_to w b c) ≡ false → book_after w b c ≡ b
  -- ".. and a buffer lent for text"
  pub buffer : (b : Book) (i : ℕ) (buf : List ℕ) → accepted (show_answer w b i buf) ≡ false → shown w b i buf ≡ buf
  -- a good opening makes a sound book, any other "the all-zero book, which is not sound"; and every call on a sound book returns a sound book
  pub opens : (districts : ℕ) (xs : List Opening) → good_opening districts xs ≡ true → Whole w (opened w districts xs)
  pub opens_none : (districts : ℕ) (xs : List Opening) → good_opening districts xs ≡ false → (opened w districts xs ≡ no_book w) × (sound w (no_book w) ≡ false)
  pub keeps : (b : Book) (c : Call) → Whole w b → Whole w (book_after w b c)
  -- "sheet over 32,768 bytes"; "14 comes before 13, place 0"; 13 gives the place that its reading found wrong; a sheet that was read opens its book
  pub too_long : (s : List ℕ) → most_bytes < length s → SheetGives w s 14 0 (no_book w)
  pub malformed : (s : List ℕ) → length s ≤ most_bytes → (p : ℕ) → sheet s ≡ wrong p → SheetGives w s 13 p (no_book w)
  pub well_formed : (s : List ℕ) → length s ≤ most_bytes → (x : Sheet) (at : ℕ) (rest : List ℕ) → sheet s ≡ right x at rest → SheetGives w s 0 0 (opened w x.districts x.items)
  -- "It refuses (2) if the assignment's number is over 63, or unless exactly one pair of the list applies.": any list of pairs
  pub asking : (ps : List Pair) (a : ℕ) → asked_number (asked w ps a) ≡ cond (ltb a (2 ^ w) && eqb (hits ps a) 1) 0 2
  -- "Deciding, hearing and giving up never lack room." (document 01): 8 is not in their lists above. Deciding changes no polyvalue (demand 2); what giving up makes of an item's
  -- pending and held value, and hearing of each, are at most `most_pairs` pairs, whatever the place and the outcome.
  pub give_up_room : (b : Book) → Sound w b → (i : ℕ) → i < b.count → (q : ℕ) → length (select w q (in_use (item_at b i).pending) (in_use (item_at b i).held)) ≤ most_pairs
  pub hear_room : (b : Book) → Sound w b → (i : ℕ) → i < b.count → (q : ℕ) (o : Bool)
      → (length (reduce w q o (in_use (item_at b i).held)) ≤ most_pairs) × (length (reduce w q o (in_use (item_at b i).pending)) ≤ most_pairs)

-- "any two results it allows are equal" (document 01, How strong the contracts are): once for every contract, since each says `result ≡ definition` (of a lent buffer, what it
-- holds afterwards); but where the result is a condition, or a product, a contract may say what its number is, and the number settles it
pub record OneResult : Type 1 where
  pub results : (A : Type 0) (definition r s : A) → r ≡ definition → s ≡ definition → r ≡ s
  pub conditions : (c d : Condition) → number c ≡ number d → c ≡ d
  pub products : (p q : Product) → p.0 ≡ q.0 → p ≡ q

-- ==== Demand 2

-- item i's pending value under the assignment a, as `held_at` is its held value
abbrev pub pending_at : Book → ℕ → ℕ → ℤ
pending_at b a i = at (in_use (item_at b i).pending) a

-- after a call, item i's held and pending value under the assignment a are u and v
pub record Values (after : Book) (a i : ℕ) (u v : ℤ) : Type 0 where
  pub held : held_at after a i ≡ u
  pub pending : pending_at after a i ≡ v

-- an accepted call on a book of full tables: something holds of the book after it
abbrev pub Accepts : ℕ → Call → (Book → Book → Type 0) → Type 0
Accepts w c P = (b : Book) → Shaped w b → accepted (answer_to w b c) ≡ true → P b (book_after w b c)

-- a value for each item and each assignment
abbrev pub EachValue : ℕ → Book → (ℕ → ℕ → Type 0) → Type 0
EachValue w b P = (i : ℕ) → i < b.count → (a : ℕ) → a < 2 ^ w → P a i

-- a record for each district
abbrev pub Records : Book → Book → (ℕ → Record) → Type 0
Records b after f = (d : ℕ) → d < b.districts → record_at after d ≡ f d

-- the value of an item in district d when it gives up on the transaction number n: "From computing: pending becomes held .. From waiting: each item becomes its pending value
-- where the transaction completes and its held value where it aborts"
abbrev pub given_up_at : ℕ → Book → ℕ → ℕ → ℕ → ℕ → ℤ
given_up_at w b n d a i = cond (computing_on n (record_at b d)) (held_at b a i) (cond (member a (place_of w b n)) (pending_at b a i) (held_at b a i))

-- the assignment a with the place of the transaction number n "set to the outcome"
abbrev pub set_at : ℕ → Book → ℕ → ℕ → ℕ
set_at w b n a = with_place w a (place_of w b n) (outcome (open_of w b n))

-- the value of an item in district d, held or pending, when it hears of the transaction number n: "If it is busy on that transaction it installs pending (completed) or drops
-- it (aborted) .. Then every held and pending polyvalue there is reduced: its value under an assignment is the old one with that place set to the outcome."
abbrev pub heard_at : ℕ → Book → ℕ → ℕ → (ℕ → ℕ → ℤ) → ℕ → ℕ → ℤ
heard_at w b n d old a i =
    cond (busy_on n (record_at b d)) (cond (outcome (open_of w b n)) (pending_at b (set_at w b n a) i) (held_at b (set_at w b n a) i)) (old (set_at w b n a) i)

-- "An open transaction keeps its touched districts, those that reported ready, those that gave up before ready, and its decision": that of a program of these steps, as it begins
abbrev pub new_row : Book → List Step → Open
new_row b xs = record { number = record { 0 = suc b.last.0 }; touched = set_of most_districts (touches_district b xs); ready = 0; gave = 0; decision = 0 }

-- the row at place q where that at place p becomes o
abbrev pub row_with : Book → ℕ → Open → ℕ → Open
row_with b p o q = cond (eqb q p) o (open_at b q)

-- the row at place q after a call, before it forgets: a transaction begins at "the lowest free" place; each event on one changes its row alone
abbrev pub open_after : ℕ → Book → Call → ℕ → Open
open_after w b (begins_with bytes) = row_with b (free_place w b) (new_row b (steps bytes))
open_after w b (readies n d) = row_with b (place_of w b n) (reported d (open_of w b n))
open_after w b (gives_up n d) = row_with b (place_of w b n) (cond (computing_on n (record_at b d)) (marked d (open_of w b n)) (open_of w b n))
open_after w b (completes n) = row_with b (place_of w b n) (with_decision 1 (open_of w b n))
open_after w b (aborts n) = row_with b (place_of w b n) (with_decision 2 (open_of w b n))
open_after w b (hears n d) = open_at b
open_after w b (shows i buf) = open_at b

-- what an accepted call leaves besides values and records: no district or item is added or moved, and each place has its row, or is freed where "Forgetting" says so
pub record Leaves (w : ℕ) (c : Call) (b after : Book) : Type 0 where
  pub last : after.last.0 ≡ cond (asks_begin c) (suc b.last.0) b.last.0
  pub districts : after.districts ≡ b.districts
  pub count : after.count ≡ b.count
  pub belongs : (i : ℕ) → i < b.count → (item_at after i).district ≡ (item_at b i).district
  pub places : (q : ℕ) → q < w → open_at after q ≡ remembered w after q (open_after w b c q)

-- the transaction at place q is decided, before the call c or by it
abbrev pub is_decided : Book → Call → ℕ → Bool
is_decided b c q = decided (open_at b q) || (asks_complete (open_at b q).number.0 c || asks_abort (open_at b q).number.0 c)

pub record Demand2 (w : ℕ) : Type 0 where
  -- "equal values joined, no empty condition, conditions complete and disjoint": in every sound book
  pub held : (b : Book) → Sound w b → (i : ℕ) → i < b.count → WellFormed w (in_use (item_at b i).held)
  pub pending : (b : Book) → Sound w b → (i : ℕ) → i < b.count → WellFormed w (in_use (item_at b i).pending)
  -- "Two polyvalues that choose alike under all of document 01's assignments, also those a decision has ruled out, are the same pairs."
  pub unique : (ps qs : List Pair) → Complete w ps → Complete w qs → ((a : ℕ) → a < 2 ^ w → at ps a ≡ at qs a) → ps ≡ qs
  -- "Beginning": "For each of the 64 assignments run the program on the held values chosen by it. The results are the touched items' pending polyvalues."
  pub beginning : (bytes : List ℕ) → Accepts w (begins_with bytes) (λ b after. EachValue w b (λ a i.
      Values after a i (held_at b a i) (cond (touches (steps bytes) i) (run (steps bytes) (held_at b a) i) (pending_at b a i))))
  pub beginning_records : (bytes : List ℕ) → Accepts w (begins_with bytes) (λ b after. Records b after (λ d.
      cond (touches_district b (steps bytes) d) (begin_record (suc b.last.0)) (record_at b d)))
  -- "The answer is the number and a grant: 1 if no assignment declines, 0 if all do, 2 otherwise."
  pub beginning_answer : (bytes : List ℕ) → Accepts w (begins_with bytes) (λ b after. ((begin w b bytes).number.0 ≡ suc b.last.0) × ((begin w b bytes).grant ≡ grant w b (steps bytes)))
  -- "readiness"
  pub readiness : (n d : ℕ) → Accepts w (readies n d) (λ b after. EachValue w b (λ a i. Values after a i (held_at b a i) (pending_at b a i)))
  pub readiness_records : (n d : ℕ) → Accepts w (readies n d) (λ b after. Records b after (λ e. cond (eqb e d) (ready_record (record_at b e)) (record_at b e)))
  -- "giving up"
  pub giving_up : (n d : ℕ) → Accepts w (gives_up n d) (λ b after. EachValue w b (λ a i.
      Values after a i (cond (there d (item_at b i)) (given_up_at w b n d a i) (held_at b a i)) (cond (there d (item_at b i)) (given_up_at w b n d a i) (pending_at b a i))))
  pub giving_up_records : (n d : ℕ) → Accepts w (gives_up n d) (λ b after. Records b after (λ e. cond (eqb e d) no_record (record_at b e)))
  -- "decision"
  pub completing : (n : ℕ) → Accepts w (completes n) (λ b after. EachValue w b (λ a i. Values after a i (held_at b a i) (pending_at b a i)))
  pub completing_records : (n : ℕ) → Accepts w (completes n) (λ b after. Records b after (record_at b))
  pub aborting : (n : ℕ) → Accepts w (aborts n) (λ b after. EachValue w b (λ a i. Values after a i (held_at b a i) (pending_at b a i)))
  pub aborting_records : (n : ℕ) → Accepts w (aborts n) (λ b after. Records b after (record_at b))
  -- "hearing"
  pub hearing : (n d : ℕ) → Accepts w (hears n d) (λ b after. EachValue w b (λ a i.
      Values after a i (cond (there d (item_at b i)) (heard_at w b n d (held_at b) a i) (held_at b a i)) (cond (there d (item_at b i)) (heard_at w b n d (pending_at b) a i) (pending_at b a i))))
  pub hearing_records : (n d : ℕ) → Accepts w (hears n d) (λ b after. Records b after (λ e. cond (eqb e d) (hear_record n (record_at b e)) (record_at b e)))
  -- the last number, the counts, the items' districts and the places
  pub leaving : (c : Call) → Accepts w c (Leaves w c)
  -- and that is all of the book: two whole books that have what a call leaves, and the same records and values, are one
  pub settled : (c : Call) (b x y : Book) → Whole w x → Whole w y → Leaves w c b x → Leaves w c b y → Records b x (record_at y)
      → EachValue w b (λ a i. Values x a i (held_at y a i) (pending_at y a i)) → x ≡ y
  -- "At the end of each accepted event, a decided transaction is closed, and its place freed, exactly when no district is on it and no held or pending polyvalue depends on it."
  pub forgetting : (c : Call) → Accepts w c (λ b after. (q : ℕ) → q < w → is_open (open_at b q) ≡ true
      → is_open (open_at after q) ≡ (not (is_decided b c q) || (some_on after (open_at b q).number.0 || some_depends w after q)))
  -- "showing"
  pub showing : (b : Book) (i : ℕ) (buf : List ℕ) → accepted (show_answer w b i buf) ≡ true → shown w b i buf ≡ written buf 0 (held_line w b i)

-- ==== Demand 3

-- the value that item i was opened with, and its district
abbrev pub opening_of : List Opening → ℕ → Opening
opening_of xs i = get_or xs i no_opening

-- the record of item i's district
abbrev pub district_of : Book → ℕ → Record
district_of b i = record_at b (item_at b i).district

-- the assignment a says of each open transaction's place what g guesses of its number. Of a free place it may say anything.
pub record Says (w : ℕ) (b : Book) (g : ℕ → Bool) (a : ℕ) : Type 0 where
  pub assignment : a < 2 ^ w
  pub places : (q : ℕ) → q < w → is_open (open_at b q) ≡ true → member a q ≡ g (open_at b q).number.0

-- item i of the book b, under the assignment a that the guess g makes, where v is "the item's value after running only the transactions guessed complete, .."
pub record Right (g : ℕ → Bool) (v : ℤ) (b : Book) (a i : ℕ) : Type 0 where
  -- "For each item exactly one held pair applies."
  pub one : hits (in_use (item_at b i).held) a ≡ 1
  -- "In an idle district its value is the item's value after running .."
  pub in_idle : idle (district_of b i) ≡ true → held_at b a i ≡ v
  -- "In a busy district the same is true of the pending value if its transaction is guessed complete,
  pub one_pending : hits (in_use (item_at b i).pending) a ≡ 1
  pub completed : idle (district_of b i) ≡ false → g (district_of b i).transaction.0 ≡ true → pending_at b a i ≡ v
  -- and of the held value if not."
  pub aborted : idle (district_of b i) ≡ false → g (district_of b i).transaction.0 ≡ false → held_at b a i ≡ v

-- the book b after the calls of the past, on a book that was opened with the items xs
pub record Serially (w : ℕ) (xs : List Opening) (b : Book) (past : List Said) : Type 0 where
  -- it is sound, and its items are those that were opened
  pub sound : Sound w b
  pub count : b.count ≡ length xs
  pub districts : (i : ℕ) → i < length xs → (item_at b i).district ≡ (opening_of xs i).district
  -- "guess all outcomes, keeping those decided and aborting any undecided transaction that a district gave up before it was ready. For each item .."
  pub right : (g : ℕ → Bool) → Guess past g → (a : ℕ) → Says w b g a → (i : ℕ) → i < length xs → Right g (serial g (λ j. (opening_of xs j).value) past i) b a i
  -- there is such a guess, and an assignment for each
  pub guess : (g : ℕ → Bool) × Guess past g
  pub says : (g : ℕ → Bool) → (a : ℕ) × Says w b g a
  -- "Numbers are given 1, 2, 3": so no two transactions share a guess
  pub numbers : (c : Call) → accepted (answer_to w b c) ≡ true → asks_begin c ≡ true → number_given w b c ≡ suc (began past)

-- "After any calls on an opened book, refusals among them, .."
abbrev pub Demand3 : ℕ → Type 0
Demand3 w =
    (districts : ℕ) (xs : List Opening) → good_opening districts xs ≡ true
    → (h : History) → Serially w xs (after_calls w (opened w districts xs) h) (past_of w (opened w districts xs) h)

-- "Only a good sheet opens a book" (document 01, Events): a sheet that is accepted was read, what it says opens its book, and so all of that holds after any calls on it
abbrev pub OnSheets : ℕ → Type 0
OnSheets w =
    (s : List ℕ) → accepted (open_sheet w s).answer ≡ true
    → (x : Sheet) × (at : ℕ) × (rest : List ℕ) × (sheet s ≡ right x at rest)
    × ((h : History) → Serially w x.items (after_calls w (open_sheet w s).book h) (past_of w (open_sheet w s).book h))

-- and so it holds of every book that the program comes to
pub record OnProgram (w : ℕ) : Type 0 where
  -- what it prints, as it opens the sheet and plays the events that it finds in it one by one, is `output`
  pub prints : (s : List ℕ) → by_calls w s ≡ output w s
  -- each event that it plays is a call: on any book, and whatever stands in the sheet
  pub calls : (b : Book) (s : List ℕ) (e : Event) → IsCall w b s e
  -- so it holds of the book after any events, the first few of an accepted sheet's own among them: these are what event_at finds from the first on, as many as the sheet counts
  pub books : (s : List ℕ) → accepted (open_sheet w s).answer ≡ true
      → (x : Sheet) × (at : ℕ) × (rest : List ℕ) × (sheet s ≡ right x at rest)
      × AsRead s x.events
      × ((es : List Event) → Serially w x.items (book_played w (open_sheet w s).book s es) (past_of w (open_sheet w s).book (history_of s es)))

-- ==== "Marked examples (prove these ten)"

-- 8 and 9 as show writes them, after the count of pairs: "`0:T1&T2 1:!T1&T2 4:T1&!T2 5:!T1&!T2`" and "`0:T2 4:!T2`"
pub record Lines : Type 0 where
  pub eight : held_line places twice 0 ≡ bytes_of "4 0:T1&T2 1:!T1&T2 4:T1&!T2 5:!T1&!T2"
  pub nine : held_line places told 0 ≡ bytes_of "2 0:T2 4:!T2"

abbrev pub MarkedExamples : Type 0
MarkedExamples = Example1 × Example2 × Example3 × Example4 × Example5 × Example6 × Example7 × Example8 × Example9 × Example10 × Lines

-- ==== all of it

pub record Demands : Type 1 where
  pub one : (w : ℕ) → Demand1 w
  pub one_result : OneResult
  pub two : (w : ℕ) → Demand2 w
  pub three : (w : ℕ) → Demand3 w
  pub on_sheets : (w : ℕ) → OnSheets w
  pub on_program : (w : ℕ) → OnProgram w
  pub examples : MarkedExamples
