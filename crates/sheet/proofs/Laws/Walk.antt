-- The program's main is thin: it opens the sheet, and calls event_at and play again and again. `output` speaks instead of the events that reading the sheet gave. These laws
-- say that the two are one: event_at finds just these events, each from the place behind the one before it, and so what the calls print is `output`.
use mathlib.Core.Path.{◌≡◌, refl, sym, ap, ◌∙◌}
use mathlib.Core.Bool.{cond}
use mathlib.Core.List.{List, [], ◌∷◌, ◌++◌, append-nil, append_assoc}
use Prim.Native.Nat.{ℕ, zero, suc}
use lib.ListN.{length, drop}
use Rattle.std.specs.Prelude.{Ok}
use Rattle.conditions.proofs.Laws.Below.{by_cases}
use Rattle.book.specs.declared.Book.{Book}
use Rattle.book.specs.Answers.{accepted}
use Rattle.sheet.specs.declared.events.Event.{Event}
use Rattle.sheet.specs.Readers.{Read, wrong, right, repeat, one_more, word, any}
use Rattle.sheet.specs.Events.{event, answered, event_at}
use Rattle.sheet.specs.Sections.{Events, Sheet, districts, items, events, sheet}
use Rattle.sheet.specs.Open.{too_long, refused, opened_sheet, open_sheet}
use Rattle.sheet.specs.Lines.{refusal_line, end_line}
use Rattle.sheet.specs.Play.{EventResult, event_result, result_line}
use Rattle.sheet.specs.Output.{event_lines, printed, output}
use Rattle.sheet.specs.Program.{printed_from, by_calls, Stand, AsRead}
use Rattle.sheet.proofs.Laws.Open.{first_read, all_read}
use Rattle.sheet.proofs.Laws.Places.{leaves_word, leaves-event, leaves-districts, leaves-items}

-- ---- the events that were read are those that the calls find

module _ (s : List ℕ) where
  -- what is read at a place is what the call finds there
  event-found : (at : ℕ) {e : Event} {next : ℕ} {rest : List ℕ} → event at (drop at s) ≡ right e next rest → event_at s at ≡ Ok (record { event = e; next = next })
  unfolding event_at
  event-found at q = ap answered q

  -- n events were read after those that were got
  more-found : (n : ℕ) (got : List Event) (at : ℕ) {es : List Event} {next : ℕ} {rest : List ℕ} → repeat n (one_more event) got at (drop at s) ≡ right es next rest
      → (more : List Event) × (es ≡ got ++ more) × (length more ≡ n) × Stand s at more
  unfolding repeat one_more
  more-found zero got at {es} e = let same : got ≡ es = cc in ([], sym same ∙ sym (append-nil got), refl, tt)
  more-found (suc n) got at e =
      let one = first_read (one_more event got at (drop at s)) (repeat n (one_more event)) e in
      let read = first_read (event at (drop at s)) _ one.3 in
      let same : got ++ (read.0 ∷ []) ≡ one.0 = cc read.4 in
      let behind : read.1 ≡ one.1 = cc read.4 in
      let left : read.2 ≡ one.2 = cc read.4 in
      let from : one.2 ≡ drop one.1 s = sym left ∙ (leaves-event s at).is read.3 ∙ ap (λ (i : ℕ). drop i s) behind in
      let rest = more-found n one.0 one.1 (rw from at one.4) in (
        read.0 ∷ rest.0,
        rest.1 ∙ ap (λ (l : List Event). l ++ rest.0) (sym same) ∙ append_assoc got (read.0 ∷ []) rest.0,
        ap suc rest.2,
        (one.1, event-found at (rw behind at read.3), rest.3),
      )

  events-found : (at : ℕ) {x : Events} {next : ℕ} {rest : List ℕ} → events at (drop at s) ≡ right x next rest → AsRead s x
  unfolding events
  events-found at {x} e =
      let count = first_read (word any at (drop at s)) _ e in
      let from : count.2 ≡ drop count.1 s = (leaves_word s any at).is count.3 in
      let each = first_read (repeat count.0 (one_more event) [] count.1 count.2) _ count.4 in
      let found = more-found count.0 [] count.1 (ap (repeat count.0 (one_more event) [] count.1) (sym from) ∙ each.3) in
      let is : record { count = count.0; first = count.1; each = found.0 } ≡ x = ap (λ (es : List Event). record { count = count.0; first = count.1; each = es }) (sym found.1) ∙ cc each.4 in
      rw (sym is) (record { many = found.2; found = found.3 })

  -- of a sheet that was read
  pub sheet-found : {x : Sheet} {at : ℕ} {rest : List ℕ} → sheet s ≡ right x at rest → AsRead s x.events
  unfolding sheet
  sheet-found {x} e =
      let first = first_read (districts 0 s) _ e in
      let behind : first.2 ≡ drop first.1 s = (leaves-districts s 0).is first.3 in
      let second = first_read (items first.0 first.1 first.2) _ first.4 in
      let from : second.2 ≡ drop second.1 s = (leaves-items s first.0 first.1).is (ap (items first.0 first.1) (sym behind) ∙ second.3) in
      let third = first_read (events second.1 second.2) _ second.4 in
      let same = all_read (record { districts = first.0; items = second.0; events = third.0 }) third.1 third.2 third.4 in
      rw (sym (ap (λ (y : Sheet). y.events) same)) (events-found second.1 (ap (events second.1) (sym from) ∙ third.3))

-- ---- so the calls print what is said of the sheet as it was read

module _ (w : ℕ) (s : List ℕ) where
  plays-each : (es : List Event) (b : Book) (position at : ℕ) → Stand s at es → printed_from w s (length es) b position at ≡ event_lines w b s position es ++ end_line
  unfolding printed_from event_lines
  plays-each [] b position at k = refl
  plays-each (e ∷ es) b position at k =
      let x : EventResult = event_result w b s e in
      rw k.1
      (ap (λ (t : List ℕ). result_line position x ++ t) (plays-each es x.book (suc position) k.0 k.2)
      ∙ sym (append_assoc (result_line position x) (event_lines w x.book s (suc position) es) end_line))

  pub by-calls : by_calls w s ≡ output w s
  unfolding by_calls output open_sheet opened_sheet refused printed
  by-calls = by_cases (too_long s) (λ t. rw t) (λ t. rw t (go (sheet s) refl))
    where
      go : (r : Read Sheet) → sheet s ≡ r
          → cond (accepted (opened_sheet w r).answer) (printed_from w s (opened_sheet w r).count (opened_sheet w r).book 1 (opened_sheet w r).first) (refusal_line (opened_sheet w r).answer (opened_sheet w r).place)
          ≡ printed w s r
      go (wrong place) q = refl
      go (right x at rest) q = let found = sheet-found s q in rw (sym found.many) (plays-each x.events.each _ 1 x.events.first found.found)
