-- Demand 3 on a book that a good sheet opened, and on every book that the program comes to when it plays one.
use mathlib.Core.Path.{◌≡◌, refl, ap, ◌∙◌}
use mathlib.Core.List.{List, [], ◌∷◌}
use Prim.Native.Nat.{ℕ}
use Rattle.book.specs.declared.Book.{Book}
use Rattle.sheet.specs.declared.events.Event.{Event}
use Rattle.sheet.specs.declared.events.Event.TheVariants.{Begin, Ready, GiveUp, Complete, Abort, Hear, Show}
use Rattle.sheet.specs.Open.{open_sheet}
use Rattle.sheet.specs.Play.{of_show, event_result}
use Rattle.sheet.proofs.Laws.Open.{sheet-opens}
use Rattle.sheet.proofs.Laws.Walk.{sheet-found, by-calls}
use Rattle.demands.specs.Calls.{History, nothing, ◌then◌, after_calls}
use Rattle.demands.specs.Playing.{call_of, IsCall, book_played, then_events, history_of}
use Rattle.demands.specs.Demands.{OnSheets, OnProgram}
use Rattle.demands.proofs.Demand3.{demand-3}

pub on-sheets : (w : ℕ) → OnSheets w
on-sheets w s e =
    let o = sheet-opens w s e in
    (o.0, o.1, o.2, o.3, λ h. rw o.5 (demand-3 w o.0.districts o.0.items o.4 h))

-- an event is the call that it asks for
is_call : (w : ℕ) (b : Book) (s : List ℕ) (e : Event) → IsCall w b s e
unfolding event_result of_show
is_call w b s (Begin from to) = record { answer = refl; more = refl; book = refl }
is_call w b s (Ready n d) = record { answer = refl; more = refl; book = refl }
is_call w b s (GiveUp n d) = record { answer = refl; more = refl; book = refl }
is_call w b s (Complete n) = record { answer = refl; more = refl; book = refl }
is_call w b s (Abort n) = record { answer = refl; more = refl; book = refl }
is_call w b s (Hear n d) = record { answer = refl; more = refl; book = refl }
is_call w b s (Show i) = record { answer = refl; more = refl; book = refl }

-- the book after events is that of their calls
played-calls : (w : ℕ) (b : Book) (s : List ℕ) (h : History) (es : List Event) → book_played w (after_calls w b h) s es ≡ after_calls w b (then_events s h es)
played-calls w b s h [] = refl
played-calls w b s h (e ∷ es) = ap (λ (c : Book). book_played w c s es) (is_call w (after_calls w b h) s e).book ∙ played-calls w b s (h then call_of s e) es

pub on-program : (w : ℕ) → OnProgram w
on-program w = record {
  prints = by-calls w;
  calls = is_call w;
  books = λ s e.
      let o = on-sheets w s e in
      (o.0, o.1, o.2, o.3, sheet-found s o.3, λ es. rw (played-calls w (open_sheet w s).book s nothing es) (o.4 (history_of s es)));
}
