-- Demand 1.
use mathlib.Core.Path.{◌≡◌, refl, sym, ◌∙◌, ap}
use mathlib.Core.Bool.{Bool, true, false, cond}
use mathlib.Core.List.{List, [], ◌∷◌}
use Prim.Native.Nat.{ℕ}
use borrow.Author.Tests.{lt-ltb, le-ltb}
use Rattle.conditions.specs.Conditions.{of_number}
use Rattle.polyvalues.proofs.Laws.Asked.{asked-number}
use Rattle.book.specs.declared.Refusal.{Refusal}
use Rattle.book.specs.declared.Book.{Book}
use Rattle.book.specs.Answers.{refusal_number, answer_number, first_of}
use Rattle.book.specs.Transactions.{done}
use Rattle.book.specs.Open.{opened}
use Rattle.book.specs.Begin.{begin_answer, begin}
use Rattle.book.specs.Ready.{ready_answer, ready}
use Rattle.book.specs.GiveUp.{give_up_answer, give_up}
use Rattle.book.specs.Decide.{complete_answer, abort_answer, complete, abort}
use Rattle.book.specs.Hear.{hear_answer, hear}
use Rattle.book.specs.Show.{show_answer, shown}
use Rattle.book.proofs.Laws.Open.{no_book-unsound}
use Rattle.book.proofs.Laws.OpenedShaped.{opened-whole}
use Rattle.book.proofs.Laws.Room.{give_up-room, hear-room}
use Rattle.book.specs.Shaped.{Whole}
use Rattle.book.proofs.Laws.Calls.{ready-whole, give_up-whole, complete-whole, abort-whole, hear-whole, begin-whole}
use Rattle.sheet.specs.Open.{opened_sheet, open_sheet, refused as sheet_refused}
use Rattle.demands.specs.Calls.{Call, begins_with, readies, gives_up, completes, aborts, hears, shows, answer_to, book_after}
use Rattle.demands.specs.Demands.{order_of, tests_of, first_number, Demand1, OneResult}
use Rattle.demands.proofs.Invariant.{refused-book}

-- ---- answers

-- the number of an answer that is one of a list's
numbered : (t : Bool) (r : Refusal) (more : List (Bool × Refusal)) (n : ℕ) → answer_number (first_of more) ≡ n → answer_number (first_of ((t, r) ∷ more)) ≡ cond t (refusal_number r) n
unfolding first_of
numbered true r more n e = refl
numbered false r more n e = e

none : answer_number (first_of []) ≡ 0
unfolding first_of
none = refl

answers : (w : ℕ) (b : Book) (c : Call) → answer_number (answer_to w b c) ≡ first_number (tests_of w b c) (order_of c)
unfolding done begin begin_answer ready ready_answer give_up give_up_answer complete complete_answer abort abort_answer hear hear_answer show_answer
answers w b (begins_with bytes) = numbered _ _ _ _ (numbered _ _ _ _ (numbered _ _ _ _ (numbered _ _ _ _ (numbered _ _ _ _ (numbered _ _ _ _ (numbered _ _ _ _ none))))))
answers w b (readies n d) = numbered _ _ _ _ (numbered _ _ _ _ (numbered _ _ _ _ (numbered _ _ _ _ none)))
answers w b (gives_up n d) = numbered _ _ _ _ (numbered _ _ _ _ (numbered _ _ _ _ (numbered _ _ _ _ none)))
answers w b (completes n) = numbered _ _ _ _ (numbered _ _ _ _ (numbered _ _ _ _ (numbered _ _ _ _ none)))
answers w b (aborts n) = numbered _ _ _ _ (numbered _ _ _ _ (numbered _ _ _ _ none))
answers w b (hears n d) = numbered _ _ _ _ (numbered _ _ _ _ (numbered _ _ _ _ (numbered _ _ _ _ none)))
answers w b (shows i buf) = numbered _ _ _ _ (numbered _ _ _ _ (numbered _ _ _ _ none))

-- ---- books

keeps : (w : ℕ) (b : Book) (c : Call) → Whole w b → Whole w (book_after w b c)
keeps w b (begins_with bytes) v = begin-whole w b bytes v
keeps w b (readies n d) v = ready-whole w b n d v
keeps w b (gives_up n d) v = give_up-whole w b n d v
keeps w b (completes n) v = complete-whole w b n v
keeps w b (aborts n) v = abort-whole w b n v
keeps w b (hears n d) v = hear-whole w b n d v
keeps w b (shows i buf) v = v

pub demand-1 : (w : ℕ) → Demand1 w
unfolding opened shown open_sheet opened_sheet sheet_refused
demand-1 w = record {
  answers = answers w;
  refused = refused-book w;
  buffer = λ b i buf e. rw e;
  opens = opened-whole w;
  opens_none = λ districts xs e. (rw e, no_book-unsound w);
  keeps = keeps w;
  too_long = λ s h. record { answer = rw (lt-ltb _ _ h); place = rw (lt-ltb _ _ h); book = rw (lt-ltb _ _ h) };
  malformed = λ s h p e. record { answer = rw (le-ltb _ _ h, e); place = rw (le-ltb _ _ h, e); book = rw (le-ltb _ _ h, e) };
  well_formed = λ s h x at rest e. record { answer = rw (le-ltb _ _ h, e); place = rw (le-ltb _ _ h, e); book = rw (le-ltb _ _ h, e) };
  asking = asked-number w;
  give_up_room = give_up-room w;
  hear_room = hear-room w;
}

pub one-result : OneResult
one-result = record {
  results = λ A definition r s e f. e ∙ sym f;
  conditions = λ c d e. ap of_number e;
  products = λ p q e. ap (λ (n : ℕ). record { 0 = n }) e;
}
