-- What playing an event gives, once its line is put.
use mathlib.Core.Path.{◌≡◌, refl, sym, ap, ◌∙◌}
use mathlib.Core.List.{List, [], ◌∷◌, ◌++◌}
use Prim.Native.Nat.{ℕ, ◌≤◌, ◌<◌}
use native.Mathlib.Omega.{arith}
use lib.ListN.{length, replicate}
use borrow.Author.Tests.{le-leb, lt-leb}
use Rattle.std.specs.Prelude.{Ok, Err}
use Rattle.conditions.specs.Text.{bytes}
use Rattle.conditions.specs.Written.{no_room, Put}
use Rattle.book.specs.declared.Refusal.{Refusal}
use Rattle.book.specs.declared.Book.{Book}
use Rattle.book.specs.Answers.{Answer}
use Rattle.book.specs.Show.{held_line, show_answer}
use Rattle.sheet.specs.declared.events.Event.{Event}
use Rattle.sheet.specs.declared.playing.Played.{Played}
use Rattle.sheet.specs.Lines.{event_line, lent_room, longest_line, line_answer, line_written}
use Rattle.sheet.specs.Play.{EventResult, of_show, event_result, result_line, played, played_buffer}
use Rattle.sheet.specs.declared.lines.Line.{Line}
use Rattle.sheet.specs.Plays.{head, Plays, Puts}
use Rattle.sheet.proofs.Writing.{line-written, shown-line, refused-line}

-- ---- a line in a buffer that has room for it

pub plays : (x : EventResult) (position : ℕ) {l m : List ℕ} {end : ℕ} → Put l m 0 end (result_line position x) → end ≤ length l
    → Plays x position l (record { written = Ok end; book = x.book }) m
plays x position {l} {m} {end} p h =
    let w = line-written p (omega (arith, p.ends)) in
    let ends = w.0 in
    record { result = λ k. record { written = Ok (ends k); book = x.book }; buffer = w.1 }

-- the same of a line that was put from its buffer's start on
pub line_plays : (x : EventResult) (position : ℕ) {a b : Line} → a.end ≡ 0 → Puts a b (result_line position x) → b.end ≤ length a.buf.now
    → Plays x position a.buf.now (record { written = Ok b.end; book = x.book }) b.buf.now
line_plays x position start p h = plays x position (rw start at p.put) h

-- show's line
module _ (w : ℕ) (b : Book) (i position : ℕ) where
  pub show-accepted : {l m : List ℕ} {end : ℕ} → Ok tt ≡ show_answer w b i (replicate lent_room 0)
      → Put l m 0 end (((head position (Ok tt) ++ bytes " ") ++ held_line w b i) ++ bytes "\n") → end ≤ length l
      → Plays (of_show w b i) position l (record { written = Ok end; book = b }) m
  unfolding of_show
  show-accepted is p h =
      plays (of_show w b i) position
      (rw (shown-line position (Ok tt) refl (held_line w b i) ∙ ap (λ (a : Answer). event_line position a (held_line w b i ∷ [])) is) at p) h

  pub show-refused : {l m : List ℕ} {end : ℕ} {r : Refusal} → Err r ≡ show_answer w b i (replicate lent_room 0)
      → Put l m 0 end (event_line position (Err r) []) → end ≤ length l
      → Plays (of_show w b i) position l (record { written = Ok end; book = b }) m
  unfolding of_show
  show-refused {r = r} is p h =
      plays (of_show w b i) position
      (rw (refused-line position (Err r) refl (held_line w b i ∷ []) ∙ ap (λ (a : Answer). event_line position a (held_line w b i ∷ [])) is) at p) h

-- ---- the call

module _ (w : ℕ) (b : Book) (s : List ℕ) (e : Event) (position : ℕ) (l : List ℕ) where
  pub too_short : length l < longest_line
      → (record { written = Err no_room; book = b } ≡ played w b s e position l) × (l ≡ played_buffer w b s e position l)
  unfolding played played_buffer line_answer line_written
  too_short h = let short = lt-leb longest_line (length l) h in (rw short, rw short)

  pub was-played : longest_line ≤ length l → {x : EventResult} {r : Played} {m : List ℕ} → Plays x position l r m → x ≡ event_result w b s e
      → (r ≡ played w b s e position l) × (m ≡ played_buffer w b s e position l)
  unfolding played played_buffer line_answer line_written
  was-played h p is =
      let roomy = le-leb longest_line (length l) h in
      (rw (roomy, sym is) p.result, rw (roomy, sym is) p.buffer)
