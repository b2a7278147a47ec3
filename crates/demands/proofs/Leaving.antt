-- What every accepted call leaves besides values and records.
use mathlib.Core.Path.{◌≡◌, refl, sym, ap}
use mathlib.Core.Bool.{true}
use mathlib.Core.List.{List}
use Prim.Native.Nat.{ℕ}
use borrow.Author.Tests.{not-false}
use Rattle.book.specs.declared.Book.{Book}
use Rattle.book.specs.declared.Item.{Item}
use Rattle.book.specs.Answers.{accepted}
use Rattle.book.specs.Book.{place_of}
use Rattle.book.specs.Sound.{Sound}
use Rattle.book.specs.Show.{show_answer}
use Rattle.book.proofs.Laws.Answers.{test-false}
use Rattle.book.proofs.Laws.Sound.{test-sound}
use Rattle.book.specs.Shaped.{Shaped}
use Rattle.book.proofs.Laws.But.{sound-but, row-own}
use Rattle.book.proofs.Laws.Forget.{forget-sound}
use Rattle.demands.proofs.Events.{ready-keeps, complete-keeps, abort-keeps}
use Rattle.demands.specs.Calls.{Call, begins_with, readies, gives_up, completes, aborts, hears, shows, answer_to, book_after}
use Rattle.demands.specs.Demands.{Leaves}
use Rattle.demands.proofs.Acts.{Left, left, acts-leaves}
use Rattle.demands.proofs.Tables.{ready-acts, give_up-acts, complete-acts, abort-acts, hear-acts, begin-last, begin-districts, begin-count, begin-rows}
use Rattle.demands.proofs.Items.{give_up-district, hear-district, begin-district}

-- show forgets nothing: an accepted one was handed a sound book, in which there is nothing to forget
pub show-left : (w : ℕ) (b : Book) → Shaped w b → (i : ℕ) (buf : List ℕ) → accepted (show_answer w b i buf) ≡ true → Left w b b
unfolding show_answer
show-left w b t i buf e =
    let s : Sound w b = test-sound w b (not-false _ (test-false _ _ _ e)) in
    left w b b (sym (forget-sound w b s)) (record { but = sound-but w b s; shaped = t })

pub leaves : (w : ℕ) (c : Call) (b : Book) → Shaped w b → accepted (answer_to w b c) ≡ true → Leaves w c b (book_after w b c)
leaves w (begins_with bytes) b t e = record {
  last = begin-last w b t bytes e;
  districts = begin-districts w b t bytes e;
  count = begin-count w b t bytes e;
  belongs = λ i h. begin-district w b t i h bytes e;
  places = begin-rows w b t bytes e;
}
leaves w (readies n d) b t e = acts-leaves w b _ n _ (readies n d) (ready-acts w b t n d e) refl (λ q. refl) (λ i h. ap (λ (x : Item). x.district) (ready-keeps w b n d e i))
leaves w (gives_up n d) b t e = acts-leaves w b _ n _ (gives_up n d) (give_up-acts w b t n d e) refl (λ q. refl) (λ i h. give_up-district w b t i h n d e)
leaves w (completes n) b t e = acts-leaves w b _ n _ (completes n) (complete-acts w b t n e) refl (λ q. refl) (λ i h. ap (λ (x : Item). x.district) (complete-keeps w b n e i))
leaves w (aborts n) b t e = acts-leaves w b _ n _ (aborts n) (abort-acts w b t n e) refl (λ q. refl) (λ i h. ap (λ (x : Item). x.district) (abort-keeps w b n e i))
leaves w (hears n d) b t e =
    acts-leaves w b _ n _ (hears n d) (hear-acts w b t n d e) refl
    (λ q. sym (row-own b (place_of w b n) q)) (λ i h. hear-district w b t i h n d e)
leaves w (shows i buf) b t e = record { last = refl; districts = refl; count = refl; belongs = λ j h. refl; places = (show-left w b t i buf e).rows }
