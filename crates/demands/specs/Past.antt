-- What is known of the past, from the calls and their answers alone: not from the marks that the book keeps. And what it makes of a guess (demand 3).
use Rattle.std.specs.Prelude.{◌≡◌, Bool, true, false, not, ◌&&◌, ◌||◌, cond, List, [], ◌∷◌, ℕ, suc, eqb, ℤ}
use Rattle.book.specs.declared.Book.{Book}
use Rattle.book.specs.Answers.{Answer, accepted}
use Rattle.book.specs.Programs.{steps, run}
use Rattle.demands.specs.Calls.{Call, begins_with, readies, gives_up, completes, aborts, hears, shows, answer_to, number_given, History, nothing, ◌then◌, after_calls}

-- one call of the past, what it was answered, and the number that it returned
pub record Said : Type 0 where
  pub call : Call
  pub answer : Answer
  pub number : ℕ

-- a call on the book b
abbrev pub said : ℕ → Book → Call → Said
said w b c = record { call = c; answer = answer_to w b c; number = number_given w b c }

-- all calls of a history on the book b, the latest first
abbrev pub past_of : ℕ → Book → History → List Said
past_of w b nothing = []
past_of w b (h then c) = said w (after_calls w b h) c ∷ past_of w b h

-- ---- what a call asks

-- it begins a transaction
abbrev pub asks_begin : Call → Bool
asks_begin (begins_with bytes) = true
asks_begin (readies n d) = false
asks_begin (gives_up n d) = false
asks_begin (completes n) = false
asks_begin (aborts n) = false
asks_begin (hears n d) = false
asks_begin (shows i buf) = false

-- the district d is ready for the transaction number n
abbrev pub asks_ready : ℕ → ℕ → Call → Bool
asks_ready n d (begins_with bytes) = false
asks_ready n d (readies m e) = eqb m n && eqb e d
asks_ready n d (gives_up m e) = false
asks_ready n d (completes m) = false
asks_ready n d (aborts m) = false
asks_ready n d (hears m e) = false
asks_ready n d (shows i buf) = false

-- complete the transaction number n
abbrev pub asks_complete : ℕ → Call → Bool
asks_complete n (begins_with bytes) = false
asks_complete n (readies m d) = false
asks_complete n (gives_up m d) = false
asks_complete n (completes m) = eqb m n
asks_complete n (aborts m) = false
asks_complete n (hears m d) = false
asks_complete n (shows i buf) = false

-- abort it
abbrev pub asks_abort : ℕ → Call → Bool
asks_abort n (begins_with bytes) = false
asks_abort n (readies m d) = false
asks_abort n (gives_up m d) = false
asks_abort n (completes m) = false
asks_abort n (aborts m) = eqb m n
asks_abort n (hears m d) = false
asks_abort n (shows i buf) = false

-- ---- what has happened: of refused calls nothing

-- an accepted call of the past asked this, given the calls before it
unfoldable pub ever : (List Said → Call → Bool) → List Said → Bool
ever asks [] = false
ever asks (x ∷ before) = accepted x.answer && asks before x.call || ever asks before

-- the district d reported ready for the transaction number n
abbrev pub was_ready : List Said → ℕ → ℕ → Bool
was_ready past n d = ever (λ before. asks_ready n d) past

-- the transaction number n was decided complete
abbrev pub was_completed : List Said → ℕ → Bool
was_completed past n = ever (λ before. asks_complete n) past

-- it was decided aborted
abbrev pub was_aborted : List Said → ℕ → Bool
was_aborted past n = ever (λ before. asks_abort n) past

-- a call, with these calls before it, has a district give up on the transaction number n that had not reported ready for it
abbrev pub gives_up_early : List Said → ℕ → Call → Bool
gives_up_early before n (begins_with bytes) = false
gives_up_early before n (readies m d) = false
gives_up_early before n (gives_up m d) = eqb m n && not (was_ready before n d)
gives_up_early before n (completes m) = false
gives_up_early before n (aborts m) = false
gives_up_early before n (hears m d) = false
gives_up_early before n (shows i buf) = false

-- "a district gave up before it was ready" on the transaction number n
abbrev pub was_given_up : List Said → ℕ → Bool
was_given_up past n = ever (λ before. gives_up_early before n) past

-- how many transactions began
unfoldable pub began : List Said → ℕ
began [] = 0
began (x ∷ before) = cond (accepted x.answer && asks_begin x.call) (suc (began before)) (began before)

-- ---- a guess

-- "guess all outcomes, keeping those decided and aborting any undecided transaction that a district gave up before it was ready":
-- g says of each transaction number whether it completes
pub record Guess (past : List Said) (g : ℕ → Bool) : Type 0 where
  pub completed : (n : ℕ) → was_completed past n ≡ true → g n ≡ true
  pub aborted : (n : ℕ) → was_aborted past n ≡ true → g n ≡ false
  pub given_up : (n : ℕ) → was_completed past n ≡ false → was_aborted past n ≡ false → was_given_up past n ≡ true → g n ≡ false

-- what a call makes of a state that gives each item's value, where it was accepted and returned the number n: a begin runs its program, if n is guessed complete
abbrev pub runs : (ℕ → Bool) → ℕ → Call → (ℕ → ℤ) → ℕ → ℤ
runs g n (begins_with bytes) s = cond (g n) (run (steps bytes) s) s
runs g n (readies m d) s = s
runs g n (gives_up m d) s = s
runs g n (completes m) s = s
runs g n (aborts m) s = s
runs g n (hears m d) s = s
runs g n (shows i buf) s = s

-- "the item's value after running only the transactions guessed complete, one by one in the order they began, from the opening values" s
unfoldable pub serial : (ℕ → Bool) → (ℕ → ℤ) → List Said → ℕ → ℤ
serial g s [] = s
serial g s (x ∷ before) = cond (accepted x.answer) (runs g x.number x.call (serial g s before)) (serial g s before)
