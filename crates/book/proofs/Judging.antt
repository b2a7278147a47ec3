-- A call's tests, asked in parts.
use mathlib.Core.Path.{◌≡◌, refl, ap}
use mathlib.Core.Bool.{Bool, true, false, cond}
use Prim.Native.Nat.{ℕ, ◌<◌}
use borrow.Author.Tests.{ltb-true, not-false}
use mathlib.Core.List.{List, [], ◌∷◌, ◌++◌}
use Rattle.std.specs.Prelude.{Result, Ok, Err}
use Rattle.std.specs.Result.{result_and}
use Rattle.book.specs.declared.Refusal.{Refusal}
use Rattle.book.specs.declared.Refusal.TheVariants.{NoDistrict, NotOpen, Unsound}
use Rattle.book.specs.declared.Book.{Book}
use Rattle.book.specs.Answers.{Answer, accepted, first_of}
use Rattle.book.specs.Book.{place_of}
use Rattle.book.specs.SoundTest.{sound}
use Rattle.book.specs.Forget.{forget}
use Rattle.book.specs.Transactions.{done, unsound, not_open, no_district}
use Rattle.book.specs.Judged.{site_of, SiteIn}
use Rattle.book.proofs.Doing.{accepts}
use Rattle.book.proofs.Laws.Answers.{test-false, later-accepted, and-accepted, and-refused}

pub first-more : (xs ys : List (Bool × Refusal)) → first_of (xs ++ ys) ≡ result_and (first_of xs) (first_of ys)
unfolding first_of
first-more [] ys = refl
first-more (x ∷ xs) ys = go x.0 (first-more xs ys)
  where
    go : (t : Bool) → first_of (xs ++ ys) ≡ result_and (first_of xs) (first_of ys) → cond t (Err x.1) (first_of (xs ++ ys)) ≡ result_and (cond t (Err x.1) (first_of xs)) (first_of ys)
    go true e = refl
    go false e = e

-- tests xs that gave x, and then one more, after which y is given
module _ {A B : Type 0} (xs : List (Bool × Refusal)) (t : Bool) (r : Refusal) (x : A) (y : B) where
  abbrev whole : Result B Refusal
  whole = result_and (first_of (xs ++ (t, r) ∷ [])) (Ok y)

  pub refused-before : {q : Refusal} → Err q ≡ result_and (first_of xs) (Ok x) → Err q ≡ whole
  refused-before e = rw (first-more xs ((t, r) ∷ []), and-refused (first_of xs) x e)

  pub refused-last : {v : A} → Ok v ≡ result_and (first_of xs) (Ok x) → t ≡ true → Err r ≡ whole
  unfolding first_of
  refused-last e k = rw (first-more xs ((t, r) ∷ []), (and-accepted (first_of xs) e).0, k)

  pub accepted-last : {v : A} {u : B} → Ok v ≡ result_and (first_of xs) (Ok x) → t ≡ false → u ≡ y → Ok u ≡ whole
  unfolding first_of
  accepted-last e k same = rw (first-more xs ((t, r) ∷ []), (and-accepted (first_of xs) e).0, k) (ap Ok same)

-- two parts, one after the other
module _ {A B C : Type 0} (xs ys : List (Bool × Refusal)) (x : A) (y : B) (z : C) where
  pub refused-first : {r : Refusal} → Err r ≡ result_and (first_of xs) (Ok x) → Err r ≡ result_and (first_of (xs ++ ys)) (Ok z)
  refused-first e = rw (first-more xs ys, and-refused (first_of xs) x e)

  pub refused-second : {v : A} {r : Refusal} → Ok v ≡ result_and (first_of xs) (Ok x) → Err r ≡ result_and (first_of ys) (Ok y) → Err r ≡ result_and (first_of (xs ++ ys)) (Ok z)
  refused-second e f = rw (first-more xs ys, (and-accepted (first_of xs) e).0, and-refused (first_of ys) y f)

  pub accepted-both : {v : A} {u : B} {t : C} → Ok v ≡ result_and (first_of xs) (Ok x) → Ok u ≡ result_and (first_of ys) (Ok y) → t ≡ z → Ok t ≡ result_and (first_of (xs ++ ys)) (Ok z)
  accepted-both e f same = rw (first-more xs ys, (and-accepted (first_of xs) e).0, (and-accepted (first_of ys) f).0) (ap Ok same)

-- ---- the tests of the events on a transaction

module _ (w : ℕ) (b : Book) (n : ℕ) where
  pub sound_and_open : (more : List (Bool × Refusal)) → first_of ((unsound w b, Unsound) ∷ (not_open w b n, NotOpen) ∷ more) ≡ Ok tt → (sound w b ≡ true) × (place_of w b n < w)
  sound_and_open more e =
      let y = ap accepted e in
      (not-false _ (test-false _ _ _ y), ltb-true (place_of w b n) w (not-false _ (test-false _ _ _ (later-accepted _ _ _ y))))

  pub site_in : (d : ℕ) (more : List (Bool × Refusal)) → first_of ((unsound w b, Unsound) ∷ (not_open w b n, NotOpen) ∷ (no_district b d, NoDistrict) ∷ more) ≡ Ok tt → SiteIn w b (site_of w b n d)
  site_in d more e =
      let y = ap accepted e in
      let first = sound_and_open ((no_district b d, NoDistrict) ∷ more) e in
      record {
        sound = first.0;
        place = refl;
        is_open = first.1;
        district = ltb-true d b.districts (not-false _ (test-false _ _ _ (later-accepted _ _ _ (later-accepted _ _ _ y))));
      }

-- ---- what a call returns that was judged so

module _ {A : Type 0} (w : ℕ) (a : Answer) (after before : Book) (x : A) where
  pub done-in_err : {r : Refusal} → Err r ≡ result_and a (Ok x) → record { answer = Err r; book = before } ≡ done w a after before
  unfolding done
  done-in_err e = rw (and-refused a x e)

  pub done-in_ok : {v : A} {now : Book} → Ok v ≡ result_and a (Ok x) → now ≡ forget w after → record { answer = Ok tt; book = now } ≡ done w a after before
  unfolding done
  done-in_ok e same = rw (and-accepted a e).0 (ap (λ (b : Book). accepts b) same)
