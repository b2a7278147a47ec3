-- How the code asks what a call is refused for: tests in the order of the call's own list, each list with what stands behind the one before it; and what the call needs where
-- none of them holds. The lists of document 01 stand with each call (`begin_answer`, `ready_answer`, `complete_answer` and so on).
use Rattle.std.specs.Prelude.{◌≡◌, Bool, true, not, List, [], ◌∷◌, ◌++◌, ℕ, ◌<◌, ltb}
use Rattle.conditions.specs.Sets.{set_of}
use Rattle.book.specs.declared.Refusal.{Refusal}
use Rattle.book.specs.declared.Refusal.TheVariants.{NoDistrict, NoItem, BadProgram, NotOpen, NotIdle, AllOpen, NumbersGiven, NotOnIt, Unsound}
use Rattle.book.specs.declared.Book.{Book}
use Rattle.book.specs.declared.Step.{Step}
use Rattle.book.specs.declared.begin.Room.{Room}
use Rattle.book.specs.declared.site.Site.{Site}
use Rattle.book.specs.Book.{most_districts, last_number, place_of, free_place}
use Rattle.book.specs.Programs.{steps, some_step}
use Rattle.book.specs.SoundTest.{sound}
use Rattle.book.specs.Transactions.{unsound, not_open, no_district}
use Rattle.book.specs.Begin.{bad_program, outside, some_busy, touches_district}

-- ---- the events on a transaction

-- 15, 4
abbrev pub open_tests : ℕ → Book → ℕ → List (Bool × Refusal)
open_tests w b n = (unsound w b, Unsound) ∷ (not_open w b n, NotOpen) ∷ []

-- and at a district: 1
abbrev pub site_tests : ℕ → Book → ℕ → ℕ → List (Bool × Refusal)
site_tests w b n d = open_tests w b n ++ (no_district b d, NoDistrict) ∷ []

-- and of a district that is not on the transaction as the event asks: 9
abbrev pub on_tests : ℕ → Book → ℕ → ℕ → Bool → List (Bool × Refusal)
on_tests w b n d is_on = site_tests w b n d ++ (not is_on, NotOnIt) ∷ []

-- where the event takes place: the transaction number n at its place, and district d
abbrev pub site_of : ℕ → Book → ℕ → ℕ → Site
site_of w b n d = record { number = record { 0 = n }; place = record { 0 = place_of w b n }; district = d }

-- it is so in a sound book: the place is that of the number, and the district is there
pub record SiteIn (w : ℕ) (b : Book) (at : Site) : Type 0 where
  pub sound : sound w b ≡ true
  pub place : at.place.0 ≡ place_of w b at.number.0
  pub is_open : at.place.0 < w
  pub district : at.district < b.districts

-- ---- begin

-- 15, 3, 2
abbrev pub program_tests : ℕ → Book → List ℕ → List (Bool × Refusal)
program_tests w b bytes = (unsound w b, Unsound) ∷ (bad_program bytes, BadProgram) ∷ (some_step (outside b.count) (steps bytes), NoItem) ∷ []

-- and 5, 6, 7
abbrev pub room_tests : ℕ → Book → List Step → List (Bool × Refusal)
room_tests w b xs = (some_busy b xs, NotIdle) ∷ (not (ltb (free_place w b) w), AllOpen) ∷ (not (ltb b.last.0 last_number), NumbersGiven) ∷ []

-- what the program takes: the place, and the districts that it touches
abbrev pub room_of : ℕ → Book → List Step → Room
room_of w b xs = record { place = free_place w b; districts = set_of most_districts (touches_district b xs) }
