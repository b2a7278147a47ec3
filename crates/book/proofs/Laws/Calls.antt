-- Demand 1 of every call: a refused call returns the same book, an accepted one on a sound book a sound book.
use mathlib.Core.Path.{◌≡◌}
use mathlib.Core.Bool.{Bool, true, false, not, ◌&&◌}
use mathlib.Core.List.{List, [], ◌∷◌}
use Prim.Native.Nat.{ℕ, ◌≤◌, ◌<◌}
use native.Mathlib.Omega.{arith}
use borrow.Author.Tests.{ltb-true, not-false}
use Rattle.conditions.specs.Sets.{member}
use Rattle.conditions.proofs.Laws.Below.{or_right, by_cases, any_none}
use Rattle.book.specs.declared.Refusal.{Refusal}
use Rattle.book.specs.declared.Refusal.TheVariants.{NoDistrict, NotOpen, NotOnIt, NotDecided, AlreadyDecided, Unsound}
use Rattle.book.specs.declared.Book.{Book}
use Rattle.book.specs.declared.Step.{Step}
use Rattle.book.specs.Answers.{Answer, accepted, first_of}
use Rattle.book.specs.Book.{last_number, record_at, place_of, free_place, open_of}
use Rattle.book.specs.Programs.{steps}
use Rattle.book.specs.Records.{computing_on, busy_on}
use Rattle.book.specs.Forget.{decided, forget}
use Rattle.book.specs.Transactions.{unsound, not_open, no_district, done}
use Rattle.book.specs.Begin.{bad_program, bad_length, begin_answer, begun, begin}
use Rattle.book.specs.Ready.{ready_answer, readied, ready}
use Rattle.book.specs.GiveUp.{give_up_answer, gave_up, give_up}
use Rattle.book.specs.Decide.{some_not_ready, complete_answer, abort_answer, decide, complete, abort}
use Rattle.book.specs.Hear.{hear_answer, heard, hear}
use Rattle.book.specs.Sound.{Sound}
use Rattle.book.proofs.Laws.Answers.{test-false, later-accepted}
use Rattle.book.proofs.Laws.Sound.{test-sound}
use Rattle.book.specs.Shaped.{Shaped, Whole}
use Rattle.book.proofs.Laws.But.{SoundBut, sound-but}
use Rattle.book.proofs.Laws.Forgetting.{forget-shaped, forget-makes-sound}
use Rattle.book.proofs.Laws.ReadySound.{ready-shaped, ready-but}
use Rattle.book.proofs.Laws.GiveUpSound.{give_up-shaped, give_up-but}
use Rattle.book.proofs.Laws.DecideSound.{decide-shaped, decide-but}
use Rattle.book.proofs.Laws.HearSound.{hear-shaped, hear-but}
use Rattle.book.proofs.Laws.BeginSound.{Begins, begin-shaped, begin-but}

-- ---- what a call returns, and so the book of a begin

-- "Every refusal .. leaves the book .. unchanged"
pub done_refused : (w : ℕ) (a : Answer) (after before : Book) → accepted a ≡ false → (done w a after before).book ≡ before
unfolding done
done_refused w a after before e = rw e

pub done-accepted : (w : ℕ) (a : Answer) (after before : Book) → accepted a ≡ true → (done w a after before).book ≡ forget w after
unfolding done
done-accepted w a after before e = rw e

-- what an event leaves, which forgetting ends
pub record WholeBut (w : ℕ) (b : Book) : Type 0 where
  pub but : SoundBut w b
  pub shaped : Shaped w b

pub forgotten : (w : ℕ) (b : Book) → WholeBut w b → Whole w (forget w b)
forgotten w b f = record { sound = forget-makes-sound w b f.but f.shaped; shaped = forget-shaped w b f.shaped }

done-whole : (w : ℕ) (a : Answer) (after before : Book) → Whole w before → (accepted a ≡ true → WholeBut w after) → Whole w (done w a after before).book
done-whole w a after before s f =
    by_cases (accepted a)
    (λ e. rw (done-accepted w a after before e) (forgotten w after (f e)))
    (λ e. rw (done_refused w a after before e) s)

-- ---- events at a district

-- what is so where one is accepted: the last of its tests says whether `fact` holds
pub record AtDistrict (w : ℕ) (b : Book) (n d : ℕ) (fact : Bool) : Type 0 where
  pub sound : Sound w b
  pub place : place_of w b n < w
  pub district : d < b.districts
  pub last : fact ≡ true

at-district : (w : ℕ) (b : Book) (n d : ℕ) (fact : Bool) (r : Refusal)
    → accepted (first_of ((unsound w b, Unsound) ∷ (not_open w b n, NotOpen) ∷ (no_district b d, NoDistrict) ∷ (not fact, r) ∷ [])) ≡ true → AtDistrict w b n d fact
at-district w b n d fact r e =
    let e1 = later-accepted _ _ _ e in
    let e2 = later-accepted _ _ _ e1 in
    let e3 = later-accepted _ _ _ e2 in
    record {
      sound = test-sound w b (not-false _ (test-false _ _ _ e));
      place = ltb-true (place_of w b n) w (not-false _ (test-false _ _ _ e1));
      district = ltb-true d b.districts (not-false _ (test-false _ _ _ e2));
      last = not-false _ (test-false _ _ _ e3);
    }

-- ---- ready

abbrev pub Readies : ℕ → Book → ℕ → ℕ → Type 0
Readies w b n d = AtDistrict w b n d (computing_on n (record_at b d))

pub ready-tests : (w : ℕ) (b : Book) (n d : ℕ) → accepted (ready w b n d).answer ≡ true → Readies w b n d
unfolding ready done ready_answer
ready-tests w b n d = at-district w b n d (computing_on n (record_at b d)) NotOnIt

pub ready-leaves : (w : ℕ) (b : Book) (n d : ℕ) → Shaped w b → Readies w b n d → WholeBut w (readied w b n d)
ready-leaves w b n d t f =
    record { but = ready-but w b (sound-but w b f.sound) t n d f.place f.district f.last; shaped = ready-shaped w b n d t }

pub ready-whole : (w : ℕ) (b : Book) (n d : ℕ) → Whole w b → Whole w (ready w b n d).book
unfolding ready done
ready-whole w b n d s = done-whole w (ready_answer w b n d) (readied w b n d) b s (λ e. ready-leaves w b n d s.shaped (ready-tests w b n d e))

-- ---- give up

abbrev pub GivesUp : ℕ → Book → ℕ → ℕ → Type 0
GivesUp w b n d = AtDistrict w b n d (busy_on n (record_at b d))

pub give_up-tests : (w : ℕ) (b : Book) (n d : ℕ) → accepted (give_up w b n d).answer ≡ true → GivesUp w b n d
unfolding give_up done give_up_answer
give_up-tests w b n d = at-district w b n d (busy_on n (record_at b d)) NotOnIt

pub give_up-leaves : (w : ℕ) (b : Book) (n d : ℕ) → Shaped w b → GivesUp w b n d → WholeBut w (gave_up w b n d)
give_up-leaves w b n d t f =
    record { but = give_up-but w b f.sound t n d f.place f.district f.last; shaped = give_up-shaped w b f.sound t n d f.place f.district f.last }

pub give_up-whole : (w : ℕ) (b : Book) (n d : ℕ) → Whole w b → Whole w (give_up w b n d).book
unfolding give_up done
give_up-whole w b n d s = done-whole w (give_up_answer w b n d) (gave_up w b n d) b s (λ e. give_up-leaves w b n d s.shaped (give_up-tests w b n d e))

-- ---- complete and abort

-- what is so where the decision v is accepted
pub record Decides (w : ℕ) (b : Book) (n v : ℕ) : Type 0 where
  pub sound : Sound w b
  pub place : place_of w b n < w
  pub undecided : decided (open_of w b n) ≡ false
  pub known : v ≤ 2
  pub ready : v ≡ 1 → (d : ℕ) → d < b.districts → member (open_of w b n).touched d ≡ true → member (open_of w b n).ready d ≡ true

-- the tests of both, and then those that only one has
decide-tests : (w : ℕ) (b : Book) (n v : ℕ) (more : List (Bool × Refusal)) → v ≤ 2
    → (accepted (first_of more) ≡ true → v ≡ 1 → some_not_ready b (open_of w b n) ≡ false)
    → accepted (first_of ((unsound w b, Unsound) ∷ (not_open w b n, NotOpen) ∷ (decided (open_of w b n), AlreadyDecided) ∷ more)) ≡ true → Decides w b n v
unfolding some_not_ready
decide-tests w b n v more known ready e =
    let o = open_of w b n in
    let e1 = later-accepted _ _ _ e in
    let e2 = later-accepted _ _ _ e1 in
    let e3 = later-accepted _ _ _ e2 in
    record {
      sound = test-sound w b (not-false _ (test-false _ _ _ e));
      place = ltb-true (place_of w b n) w (not-false _ (test-false _ _ _ e1));
      undecided = test-false _ _ _ e2;
      known = known;
      ready = λ one d h k. not-false _ (rw k at (any_none b.districts (λ d. member o.touched d && not (member o.ready d)) (ready e3 one) d h));
    }

pub complete-tests : (w : ℕ) (b : Book) (n : ℕ) → accepted (complete w b n).answer ≡ true → Decides w b n 1
unfolding complete done complete_answer
complete-tests w b n = decide-tests w b n 1 _ (omega arith) (λ e one. test-false _ _ _ e)

pub abort-tests : (w : ℕ) (b : Book) (n : ℕ) → accepted (abort w b n).answer ≡ true → Decides w b n 2
unfolding abort done abort_answer
abort-tests w b n = decide-tests w b n 2 [] (omega arith) (λ e one. absurd (omega arith))

pub decide-leaves : (w : ℕ) (b : Book) (n v : ℕ) → Shaped w b → Decides w b n v → WholeBut w (decide w b n v)
decide-leaves w b n v t f =
    record { but = decide-but w b (sound-but w b f.sound) t n f.place v f.known f.ready; shaped = decide-shaped w b n v t }

pub complete-whole : (w : ℕ) (b : Book) (n : ℕ) → Whole w b → Whole w (complete w b n).book
unfolding complete done
complete-whole w b n s = done-whole w (complete_answer w b n) (decide w b n 1) b s (λ e. decide-leaves w b n 1 s.shaped (complete-tests w b n e))

pub abort-whole : (w : ℕ) (b : Book) (n : ℕ) → Whole w b → Whole w (abort w b n).book
unfolding abort done
abort-whole w b n s = done-whole w (abort_answer w b n) (decide w b n 2) b s (λ e. decide-leaves w b n 2 s.shaped (abort-tests w b n e))

-- ---- hear

abbrev pub Hears : ℕ → Book → ℕ → ℕ → Type 0
Hears w b n d = AtDistrict w b n d (decided (open_of w b n))

pub hear-tests : (w : ℕ) (b : Book) (n d : ℕ) → accepted (hear w b n d).answer ≡ true → Hears w b n d
unfolding hear done hear_answer
hear-tests w b n d = at-district w b n d (decided (open_of w b n)) NotDecided

pub hear-leaves : (w : ℕ) (b : Book) (n d : ℕ) → Shaped w b → Hears w b n d → WholeBut w (heard w b n d)
hear-leaves w b n d t f =
    record { but = hear-but w b f.sound t n d f.place f.district; shaped = hear-shaped w b f.sound t n d f.place f.district }

pub hear-whole : (w : ℕ) (b : Book) (n d : ℕ) → Whole w b → Whole w (hear w b n d).book
unfolding hear done
hear-whole w b n d s = done-whole w (hear_answer w b n d) (heard w b n d) b s (λ e. hear-leaves w b n d s.shaped (hear-tests w b n d e))

-- ---- begin

pub begin-tests : (w : ℕ) (b : Book) (bytes : List ℕ) → accepted (begin w b bytes).answer ≡ true → (Sound w b) × (Begins w b (steps bytes))
unfolding begin begin_answer bad_program
begin-tests w b bytes e =
    let e1 = later-accepted _ _ _ e in
    let e2 = later-accepted _ _ _ e1 in
    let e3 = later-accepted _ _ _ e2 in
    let e4 = later-accepted _ _ _ e3 in
    let e5 = later-accepted _ _ _ e4 in
    let e6 = later-accepted _ _ _ e5 in (
      test-sound w b (not-false _ (test-false _ _ _ e)),
      record {
        good = or_right (bad_length bytes) _ (test-false _ _ _ e1);
        inside = test-false _ _ _ e2;
        idles = test-false _ _ _ e3;
        place = ltb-true (free_place w b) w (not-false _ (test-false _ _ _ e4));
        numbers = ltb-true b.last.0 last_number (not-false _ (test-false _ _ _ e5));
        few = test-false _ _ _ e6;
      },
    )

pub begin-leaves : (w : ℕ) (b : Book) (xs : List Step) → Shaped w b → (Sound w b) × (Begins w b xs) → WholeBut w (begun w b xs)
begin-leaves w b xs t f = record { but = begin-but w b f.0 t xs f.1; shaped = begin-shaped w b f.0 t xs f.1 }

pub begin-whole : (w : ℕ) (b : Book) (bytes : List ℕ) → Whole w b → Whole w (begin w b bytes).book
unfolding begin done
begin-whole w b bytes s =
    done-whole w (begin_answer w b bytes) (begun w b (steps bytes)) b s (λ e. begin-leaves w b (steps bytes) s.shaped (begin-tests w b bytes e))
