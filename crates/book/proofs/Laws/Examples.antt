-- The marked examples 1 to 9, by computation. The tests run once each; `refl` for two lists of pairs would run the calls again for every field of every pair.
use mathlib.Core.Path.{◌≡◌, refl}
use mathlib.Core.Bool.{Bool, true, ◌&&◌}
use mathlib.Core.List.{List, [], ◌∷◌, ◌++◌}
use Prim.Native.Nat.{ℕ}
use lib.Dec.{eqb}
use lib.IntN.{pos, negsuc}
use borrow.Author.Tests.{eqb-true}
use Rattle.conditions.specs.Places.{places, with_place}
use Rattle.polyvalues.specs.declared.polyvalue.Pair.{Pair}
use Rattle.polyvalues.specs.Pairs.{pair, depends, certain}
use Rattle.book.specs.declared.Book.{Book}
use Rattle.book.specs.declared.Begun.{Begun}
use Rattle.book.specs.Book.{item_at, open_at, no_item, no_book, record_on, item_on, place_of, free_place, item_depends, some_depends, some_on}
use Rattle.conditions.specs.Below.{all, any, first}
use Rattle.conditions.specs.Sets.{odd, member, set_of}
use Rattle.conditions.specs.Conditions.{full, union, intersection, complement, empty, completed, selected, reduced, depends_on}
use Rattle.polyvalues.specs.Values.{in_range, signed, of_bytes}
use Rattle.polyvalues.specs.Polyvalues.{well_formed, in_use, tidy, packed, sound as sound_polyvalue}
use Rattle.polyvalues.specs.Simplify.{insert, join, simplified_from, simplified, table_below, canon_over, canon}
use Rattle.polyvalues.specs.Operations.{reduce, select, different, together, same}
use Rattle.book.specs.Answers.{accepted, first_of}
use Rattle.book.specs.Rows.{rows_from}
use Rattle.book.specs.Programs.{steps, declines, after, after_all, declined_from, run, names, touches}
use Rattle.book.specs.Forget.{needed, kept, remembered, forget}
use Rattle.book.specs.SoundTest.{same_polyvalue, same_item, zero_record, zero_open, sound_busy, sound_record, sound_district, sound_pending, sound_row, sound_item, sound_at, sound_open, sound_place, sound}
use Rattle.book.specs.Records.{computing_on, waiting_on, busy_on, hear_record}
use Rattle.book.specs.Items.{concerned, split, reduce_item}
use Rattle.book.specs.Transactions.{done}
use Rattle.book.specs.Open.{good_opening, opened_item, opened_book, opened}
use Rattle.book.specs.Begin.{bad_step, bad_program, outside, results, grant, some_busy, too_many, begin_answer, touches_district, begin_item, begun, begin}
use Rattle.book.specs.Ready.{ready_answer, readied, ready}
use Rattle.book.specs.GiveUp.{give_up_answer, give_up_item, gave_up, give_up}
use Rattle.book.specs.Decide.{some_not_ready, complete_answer, decide, complete}
use Rattle.book.specs.Hear.{hear_answer, hear_item, heard, hear}
use Rattle.book.specs.Examples.{book_of, need4, need5, add1, add_minus1, add_minus2, add_minus4, set7, left_open, unsure, twice, told, T1, T2, aborted, both, Gives, Holds, Example1, Example2, Example3, Example4, Example5, Example6, Example7, Example8, Example9}
use Rattle.book.proofs.Laws.Answers.{is-accepted}
use Rattle.conditions.proofs.Laws.Below.{three}
use Rattle.book.proofs.Laws.Same.{same-pairs}

-- ---- the tests

abbrev gives : Begun → ℕ → List Pair → Bool
gives r granted ps = accepted r.answer && eqb r.grant granted && same (in_use (item_at r.book 0).pending) ps

abbrev holds : Book → ℕ → ℕ → List Pair → Bool
holds b m n ps = eqb (open_at b 0).number.0 m && eqb (open_at b 1).number.0 n && same (in_use (item_at b 0).held) ps

abbrev Tested : Book → List ℕ → ℕ → List Pair → Type 0
Tested b program granted ps = gives (begin places b program) granted ps ≡ true

record Tests : Type 0 where
  one : Tested (book_of (pos 9998)) add1 1 (certain places (pos 9999))
  two : Tested (book_of (pos 9999)) add1 0 (certain places (pos 9999))
  three : Tested (book_of (negsuc 9998)) add_minus1 0 (certain places (negsuc 9998))
  four : Tested (book_of (pos 1)) add_minus2 1 (certain places (negsuc 0))
  held : holds unsure 1 0 (pair (pos 4) T1 ∷ pair (pos 5) (aborted T1) ∷ []) ≡ true
  five : Tested unsure (need4 ++ add_minus4) 1 (pair (pos 0) T1 ∷ pair (pos 1) (aborted T1) ∷ [])
  six : Tested unsure need5 2 (pair (pos 4) T1 ∷ pair (pos 5) (aborted T1) ∷ [])
  seven : Tested unsure set7 1 (certain places (pos 7))
  eight : holds twice 1 2
      (pair (pos 0) (both T1 T2) ∷ pair (pos 1) (both (aborted T1) T2) ∷ pair (pos 4) (both T1 (aborted T2)) ∷ pair (pos 5) (both (aborted T1) (aborted T2)) ∷ [])
      ≡ true
  nine : holds told 0 2 (pair (pos 0) T2 ∷ pair (pos 4) (aborted T2) ∷ []) ≡ true

tests : Tests
unfolding all any first odd member set_of with_place full union intersection complement empty completed selected reduced depends_on in_range signed of_bytes depends certain well_formed in_use tidy packed sound_polyvalue insert join simplified_from simplified table_below canon_over canon reduce select different together first_of rows_from no_item no_book record_on item_on place_of free_place item_depends some_depends some_on steps declines after after_all declined_from run names touches needed kept remembered forget same_polyvalue same_item zero_record zero_open sound_busy sound_record sound_district sound_pending sound_row sound_item sound_at sound_open sound_place sound computing_on waiting_on busy_on hear_record concerned split reduce_item done good_opening opened_item opened_book opened bad_step bad_program outside results grant some_busy too_many begin_answer touches_district begin_item begun begin ready_answer readied ready give_up_answer give_up_item gave_up give_up some_not_ready complete_answer decide complete hear_answer hear_item heard hear book_of left_open unsure twice told
tests = record {
  one = refl;
  two = refl;
  three = refl;
  four = refl;
  held = refl;
  five = refl;
  six = refl;
  seven = refl;
  eight = refl;
  nine = refl;
}

-- ---- the examples

so : (b : Book) (program : List ℕ) (granted : ℕ) (ps : List Pair) → Tested b program granted ps → Gives b program granted ps
so b program granted ps e =
    let r = begin places b program in
    let t = three (accepted r.answer) (eqb r.grant granted) (same (in_use (item_at r.book 0).pending) ps) e in
    record { answer = is-accepted r.answer t.0; grant = eqb-true r.grant granted t.1; pending = same-pairs _ ps t.2 }

held : (b : Book) (m n : ℕ) (ps : List Pair) → holds b m n ps ≡ true → Holds b m n ps
held b m n ps e =
    let t = three (eqb (open_at b 0).number.0 m) (eqb (open_at b 1).number.0 n) (same (in_use (item_at b 0).held) ps) e in
    record { zeroth = eqb-true (open_at b 0).number.0 m t.0; first = eqb-true (open_at b 1).number.0 n t.1; held = same-pairs _ ps t.2 }

pub example-1 : Example1
example-1 = so _ _ _ _ tests.one

pub example-2 : Example2
example-2 = so _ _ _ _ tests.two

pub example-3 : Example3
example-3 = so _ _ _ _ tests.three

pub example-4 : Example4
example-4 = so _ _ _ _ tests.four

pub example-5 : Example5
example-5 = record { holds = held _ _ _ _ tests.held; gives = so _ _ _ _ tests.five }

pub example-6 : Example6
example-6 = so _ _ _ _ tests.six

pub example-7 : Example7
example-7 = so _ _ _ _ tests.seven

pub example-8 : Example8
example-8 = held _ _ _ _ tests.eight

pub example-9 : Example9
example-9 = held _ _ _ _ tests.nine
