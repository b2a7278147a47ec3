-- The transaction and the district first.
use mathlib.Core.Path.{◌≡◌, sym, ap, ◌∙◌}
use mathlib.Core.Bool.{not}
use mathlib.Core.List.{[]}
use native.Mathlib.Omega.{arith}
use Rattle.std.proofs.Common.{rules}
use Rattle.std.specs.Prelude.{Err}
use Rattle.conditions.specs.Places.{places}
use Rattle.book.specs.declared.Refusal.TheVariants.{NotDecided}
use Rattle.book.specs.declared.site.Site.{Site}
use Rattle.book.specs.Answers.{first_of}
use Rattle.book.specs.Book.{open_at, open_of}
use Rattle.book.specs.Forget.{decided}
use Rattle.book.specs.Hear.{hear_answer}
use Rattle.book.specs.Judged.{site_tests, site_of}
use Rattle.book.proofs.Laws.Answers.{and-accepted}
use Rattle.book.proofs.Judging.{refused-before, refused-last, accepted-last, site_in}
use Rattle.book.proofs.Book.may_hear.Goals as goal

pub returns-in_err-at : goal.returns-in_err-at
unfolding hear_answer
returns-in_err-at c =
    let b = c.args.self.now in
    let n = c.args.n.0 in
    let d = c.args.d in
    let at = site_of places b n d in
    let same : c.from_residual.result ≡ Err c.in_err-at.field-0.0 = search rules in
    same ∙ refused-before (site_tests places b n d) (not (decided (open_of places b n))) NotDecided at at c.in_err-at.ensures

pub bounds-self-q : goal.bounds-self-q
bounds-self-q c =
    let b = c.args.self.now in
    let judged = and-accepted (first_of (site_tests places b c.args.n.0 c.args.d)) c.in_ok-at.ensures in
    rw judged.1 (site_in places b c.args.n.0 c.args.d [] judged.0).is_open

pub offset_bounds-self-q : goal.offset_bounds-self-q
offset_bounds-self-q c =
    let b = c.args.self.now in
    let judged = and-accepted (first_of (site_tests places b c.args.n.0 c.args.d)) c.in_ok-at.ensures in
    record { fits = omega (arith, ap (λ (at : Site). at.place.0) judged.1, (site_in places b c.args.n.0 c.args.d [] judged.0).is_open) }

pub returns-then-not-is_decided : goal.returns-then-not-is_decided
unfolding hear_answer
returns-then-not-is_decided c =
    let b = c.args.self.now in
    let n = c.args.n.0 in
    let d = c.args.d in
    let at = site_of places b n d in
    let judged = and-accepted (first_of (site_tests places b n d)) c.in_ok-at.ensures in
    refused-last (site_tests places b n d) (not (decided (open_of places b n))) NotDecided at at c.in_ok-at.ensures
    (ap (λ (s : Site). not (decided (open_at b s.place.0))) (sym judged.1) ∙ ap not (sym c.is_decided.ensures ∙ c.if-not-is_decided.true))

pub returns : goal.returns
unfolding hear_answer
returns c =
    let b = c.args.self.now in
    let n = c.args.n.0 in
    let d = c.args.d in
    let at = site_of places b n d in
    let judged = and-accepted (first_of (site_tests places b n d)) c.in_ok-at.ensures in
    accepted-last (site_tests places b n d) (not (decided (open_of places b n))) NotDecided at at c.in_ok-at.ensures
    (ap (λ (s : Site). not (decided (open_at b s.place.0))) (sym judged.1) ∙ ap not (sym c.is_decided.ensures ∙ c.if-not-is_decided.false)) judged.1
