-- The set of the districts that a program touches, as the code gathers it, and what it tells: whether one of them is busy.
use mathlib.Core.Path.{◌≡◌, refl, sym, ap₂, ◌∙◌}
use mathlib.Core.Bool.{Bool, true, false, not, ◌&&◌}
use mathlib.Core.List.{List}
use Prim.Native.Nat.{ℕ, ◌<◌}
use native.Mathlib.Omega.{arith}
use lib.Dec.{eqb}
use borrow.Author.Tests.{eq-eqb}
use Rattle.conditions.specs.Below.{any}
use Rattle.conditions.specs.Sets.{member, set_of}
use Rattle.conditions.proofs.Laws.Below.{and_left, and_right, by_cases, none_any, any_of, any_some}
use Rattle.conditions.proofs.Laws.Sets.{is-set_of}
use Rattle.book.specs.declared.Book.{Book}
use Rattle.book.specs.declared.Step.{Step}
use Rattle.book.specs.Book.{most_districts, record_at, item_at, record_on, item_on}
use Rattle.book.specs.Programs.{touches}
use Rattle.book.specs.Begin.{some_busy, touches_district}
use Rattle.book.specs.SoundTest.{sound}
use Rattle.book.proofs.Loops.{Gathered}
use Rattle.book.proofs.Laws.Sound.{test-sound}
use Rattle.book.proofs.Laws.Touched.{touched-idle}

-- s has the districts with a touched item before i
abbrev pub TouchedBy : Book → List Step → ℕ → ℕ → Type 0
TouchedBy b xs i s = (s < 256) × Gathered most_districts (λ j d. touches xs j && eqb (item_at b j).district d) i s

module _ (b : Book) (xs : List Step) {i : ℕ} (s : ℕ) (last : i ≡ b.count) (e : TouchedBy b xs i s) where
  members : (d : ℕ) → d < most_districts → member s d ≡ touches_district b xs d
  unfolding touches_district
  members = rw last at e.1

  -- all items: the touched districts
  pub all-touched : s ≡ set_of most_districts (touches_district b xs)
  all-touched = is-set_of most_districts s (touches_district b xs) (omega (arith, e.0)) members

  abbrev busy : ℕ → Bool
  busy d = member s d && not (eqb (record_on (record_at b d)) 0)

  module _ (w : ℕ) (h : sound w b ≡ true) where
    some : some_busy b xs ≡ true → any b.districts busy ≡ true
    unfolding some_busy touches_district item_on
    some k =
        let found = any_some b.count (λ j. touches xs j && not (eqb (item_on b (item_at b j)) 0)) k in
        let j : ℕ = found.0 in
        let d : ℕ = (item_at b j).district in
        let below : d < b.districts = (test-sound w b h).belongs j found.1 in
        let its : touches_district b xs d ≡ true = any_of b.count (λ m. touches xs m && eqb (item_at b m).district d) j found.1 (ap₂ ◌&&◌ (and_left (touches xs j) _ found.2) (eq-eqb d d refl)) in
        any_of b.districts busy d below (ap₂ ◌&&◌ (members d (omega (arith, below, (test-sound w b h).few_districts)) ∙ its) (and_right (touches xs j) _ found.2))

    none : some_busy b xs ≡ false → any b.districts busy ≡ false
    none k = none_any b.districts busy (λ d l.
        by_cases (member s d)
        (λ m. rw (m, (touched-idle b xs (test-sound w b h).belongs k d (sym (members d (omega (arith, l, (test-sound w b h).few_districts))) ∙ m)).1))
        (λ m. rw m))

    -- a touched district is busy where a touched item is on a transaction
    pub touched-busy : {r : Bool} → r ≡ any b.districts (λ d. member s d && not (eqb (record_on (record_at b d)) 0)) → r ≡ some_busy b xs
    touched-busy f = f ∙ by_cases (some_busy b xs) (λ k. some k ∙ sym k) (λ k. none k ∙ sym k)
