-- Each event has its call.
use mathlib.Core.Path.{sym, ap, ◌∙◌}
use native.Mathlib.Omega.{arith}
use Rattle.book.specs.Begin.{begin}
use Rattle.sheet.specs.Play.{of_begun, of_done, event_result}
use Rattle.sheet.proofs.Plays.{was-played}
use Rattle.sheet.proofs.playing.play.Goals as goal

pub returns-in-Begin : goal.returns-in-Begin
unfolding event_result
returns-in-Begin c =
    let both = was-played _ _ _ _ _ _ c.if-buf-lt-LONGEST_LINE.false c.begun.ensures.plays (ap of_begun (c.begin.ensures ∙ ap (begin _ _) c.between-steps.ensures) ∙ sym (ap (event_result _ _ _) c.in-Begin.is)) in
    record { value = both.0; buf_after = grind (arith, both.1, c.begun.ensures.lent) }

pub returns-in-Ready : goal.returns-in-Ready
unfolding event_result
returns-in-Ready c =
    let both = was-played _ _ _ _ _ _ c.if-buf-lt-LONGEST_LINE.false c.done.ensures.plays (ap of_done c.ready.ensures ∙ sym (ap (event_result _ _ _) c.in-Ready.is)) in
    record { value = both.0; buf_after = grind (arith, both.1, c.done.ensures.lent) }

pub returns-in-GiveUp : goal.returns-in-GiveUp
unfolding event_result
returns-in-GiveUp c =
    let both = was-played _ _ _ _ _ _ c.if-buf-lt-LONGEST_LINE.false c.done-in-GiveUp.ensures.plays (ap of_done c.give_up.ensures ∙ sym (ap (event_result _ _ _) c.in-GiveUp.is)) in
    record { value = both.0; buf_after = grind (arith, both.1, c.done-in-GiveUp.ensures.lent) }

pub returns-in-Complete : goal.returns-in-Complete
unfolding event_result
returns-in-Complete c =
    let both = was-played _ _ _ _ _ _ c.if-buf-lt-LONGEST_LINE.false c.done-in-Complete.ensures.plays (ap of_done c.complete.ensures ∙ sym (ap (event_result _ _ _) c.in-Complete.is)) in
    record { value = both.0; buf_after = grind (arith, both.1, c.done-in-Complete.ensures.lent) }

pub returns-in-Abort : goal.returns-in-Abort
unfolding event_result
returns-in-Abort c =
    let both = was-played _ _ _ _ _ _ c.if-buf-lt-LONGEST_LINE.false c.done-in-Abort.ensures.plays (ap of_done c.abort.ensures ∙ sym (ap (event_result _ _ _) c.in-Abort.is)) in
    record { value = both.0; buf_after = grind (arith, both.1, c.done-in-Abort.ensures.lent) }

pub returns-in-Hear : goal.returns-in-Hear
unfolding event_result
returns-in-Hear c =
    let both = was-played _ _ _ _ _ _ c.if-buf-lt-LONGEST_LINE.false c.done-in-Hear.ensures.plays (ap of_done c.hear.ensures ∙ sym (ap (event_result _ _ _) c.in-Hear.is)) in
    record { value = both.0; buf_after = grind (arith, both.1, c.done-in-Hear.ensures.lent) }

pub returns-in-Show : goal.returns-in-Show
unfolding event_result
returns-in-Show c =
    let both = was-played _ _ _ _ _ _ c.if-buf-lt-LONGEST_LINE.false c.shown.ensures.plays (sym (ap (event_result _ _ _) c.in-Show.is)) in
    record { value = both.0; buf_after = grind (arith, both.1, c.shown.ensures.lent) }
