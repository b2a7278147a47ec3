-- The part of the line's buffer that show is lent, and what show did to it.
use mathlib.Core.Path.{◌≡◌, sym, ap, ◌∙◌}
use mathlib.Core.Bool.{true, not}
use mathlib.Core.List.{List, [], ◌∷◌, ◌++◌, append_assoc}
use Prim.Native.Nat.{ℕ, ◌+◌, ◌-◌, ◌≤◌}
use native.Mathlib.Omega.{arith}
use lib.Dec.{ltb}
use lib.ListN.{length, take, drop, replicate, length-drop, length-replicate, take-append-drop}
use lib.Seq.{sets, sets-eq, length-take-le, drop-append-le, drop-drop}
use borrow.Author.Tests.{leb-true, not-false}
use borrow.Rule.Slice.PartMut.{mid_of, put_mid, put_same}
use Rattle.conditions.specs.Written.{room, written, Put}
use Rattle.std.specs.Prelude.{Ok, Err}
use Rattle.book.specs.declared.Refusal.{Refusal}
use Rattle.book.specs.declared.Refusal.TheVariants.{NoItem, Unsound, ShortBuffer}
use Rattle.book.specs.declared.Book.{Book}
use Rattle.book.specs.Answers.{accepted}
use Rattle.book.specs.Transactions.{unsound}
use Rattle.book.specs.Show.{held_line, show_answer, shown, show}
use Rattle.book.proofs.Laws.Answers.{test-false, later-accepted, and-accepted, and-refused}
use Rattle.sheet.specs.Lines.{lent_room}
use Rattle.sheet.proofs.Laws.Show.{answer-by-length}

-- where show is accepted, its line has room
accepted-room : (w : ℕ) (b : Book) (i : ℕ) (l : List ℕ) → accepted (show_answer w b i l) ≡ true → room l 0 (held_line w b i) ≡ true
unfolding show_answer
accepted-room w b i l e =
    let second = later-accepted (unsound w b) Unsound ((not (ltb i b.count), NoItem) ∷ (not (room l 0 (held_line w b i)), ShortBuffer) ∷ []) e in
    let third = later-accepted (not (ltb i b.count)) NoItem ((not (room l 0 (held_line w b i)), ShortBuffer) ∷ []) second in
    not-false _ (test-false (not (room l 0 (held_line w b i))) ShortBuffer [] third)

-- a text that was written at the start of a part is put into the whole
part-put : (a k : ℕ) (xs t : List ℕ) → a + k ≤ length xs → length t ≤ k → put_mid a k xs (t ++ drop (length t) (mid_of a k xs)) ≡ sets xs a t
part-put a k xs t h l =
    let long : length (mid_of a k xs) ≡ k = length-take-le k (drop a xs) (rw (length-drop a xs) (omega arith)) in
    let rest : drop (length t) (mid_of a k xs) ++ drop k (drop a xs) ≡ drop (a + length t) xs =
    sym (drop-append-le (length t) (mid_of a k xs) (drop k (drop a xs)) (omega arith)) ∙ ap (drop (length t)) (take-append-drop k (drop a xs)) ∙ drop-drop (length t) a xs in
    ap (λ (r : List ℕ). take a xs ++ r) (append_assoc t (drop (length t) (mid_of a k xs)) (drop k (drop a xs)) ∙ ap (λ (r : List ℕ). t ++ r) rest)
    ∙ sym (append_assoc (take a xs) t (drop (a + length t) xs))
    ∙ sym (sets-eq t xs a (omega arith))

module _ (w : ℕ) (b : Book) (i : ℕ) (xs : List ℕ) (from : ℕ) (fits : from + lent_room ≤ length xs) where
  abbrev lent : List ℕ
  lent = mid_of from (from + lent_room - from) xs

  lent-long : length lent ≡ lent_room
  lent-long = length-take-le (from + lent_room - from) (drop from xs) (rw (length-drop from xs) (omega arith)) ∙ omega arith

  same_answer : show_answer w b i lent ≡ show_answer w b i (replicate lent_room 0)
  same_answer = answer-by-length w b i lent (replicate lent_room 0) (lent-long ∙ sym (length-replicate {A = ℕ} lent_room 0))

  module _ {last : List ℕ} (f : last ≡ shown w b i lent) where
    -- a refused show leaves the whole as it was
    module _ {r : Refusal} (e : Err r ≡ show w b i lent) where
      answer-is : show_answer w b i lent ≡ Err r
      unfolding show
      answer-is = and-refused (show_answer w b i lent) (length (held_line w b i)) e

      pub refused-lent : Err r ≡ show_answer w b i (replicate lent_room 0)
      refused-lent = sym answer-is ∙ same_answer

      pub lent-refused : put_mid from (from + lent_room - from) xs last ≡ xs
      unfolding shown
      lent-refused =
          let same : last ≡ lent = f ∙ rw answer-is in
          ap (put_mid from (from + lent_room - from) xs) same ∙ put_same from (from + lent_room - from) xs

    -- an accepted one puts its line there
    module _ {end : ℕ} (e : Ok end ≡ show w b i lent) where
      is_accepted : show_answer w b i lent ≡ Ok tt
      unfolding show
      is_accepted = (and-accepted (show_answer w b i lent) e).0

      end_is : end ≡ length (held_line w b i)
      unfolding show
      end_is = (and-accepted (show_answer w b i lent) e).1

      pub accepted-lent : Ok tt ≡ show_answer w b i (replicate lent_room 0)
      accepted-lent = sym is_accepted ∙ same_answer

      held-room : room lent 0 (held_line w b i) ≡ true
      held-room = accepted-room w b i lent (ap accepted is_accepted)

      pub end-few : end ≤ lent_room
      end-few = omega (arith, end_is, leb-true (0 + length (held_line w b i)) (length lent) held-room, lent-long)

      pub lent-put : Put xs (put_mid from (from + lent_room - from) xs last) from (from + end) (held_line w b i)
      unfolding shown written
      lent-put =
          let few : length (held_line w b i) ≤ from + lent_room - from = omega (arith, end_is, end-few) in
          let plain : 0 + length (held_line w b i) ≡ length (held_line w b i) = omega arith in
          let new : last ≡ held_line w b i ++ drop (length (held_line w b i)) lent = f ∙ rw (is_accepted, held-room, plain) in
          record {
            ends = ap (λ (n : ℕ). from + n) end_is;
            holds = ap (put_mid from (from + lent_room - from) xs) new ∙ part-put from (from + lent_room - from) xs (held_line w b i) (omega arith) few;
          }
