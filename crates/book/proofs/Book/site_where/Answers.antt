-- The transaction and the district first.
use mathlib.Core.Path.{◌≡◌, sym, ap, ◌∙◌}
use mathlib.Core.Bool.{not}
use mathlib.Core.List.{[]}
use Rattle.std.proofs.Common.{rules}
use Rattle.std.specs.Prelude.{Err}
use Rattle.conditions.specs.Places.{places}
use Rattle.book.specs.declared.Refusal.TheVariants.{NotOnIt}
use Rattle.book.specs.Answers.{first_of}
use Rattle.book.specs.Judged.{site_tests, site_of}
use Rattle.book.proofs.Doing.{district-row}
use Rattle.book.proofs.Laws.Answers.{and-accepted}
use Rattle.book.proofs.Judging.{refused-before, refused-last, accepted-last, site_in}
use Rattle.book.proofs.Book.site_where.Goals as goal

pub returns-in_err-at : goal.returns-in_err-at
returns-in_err-at g c t told =
    let b = c.args.self.now in
    let n = c.args.n.0 in
    let d = c.args.d in
    let at = site_of places b n d in
    let same : c.from_residual.result ≡ Err c.in_err-at.field-0.0 = search rules in
    same ∙ refused-before (site_tests places b n d) (not t) NotOnIt at at c.in_err-at.ensures

pub bounds-self-from : goal.bounds-self-from
bounds-self-from g c =
    let b = c.args.self.now in
    let at = site_in places b c.args.n.0 c.args.d [] (and-accepted (first_of (site_tests places b c.args.n.0 c.args.d)) c.in_ok-at.ensures).0 in
    rw c.from.ensures (district-row places b at.sound at.district)

pub returns-then-not-is_on : goal.returns-then-not-is_on
returns-then-not-is_on g c t told =
    let b = c.args.self.now in
    let n = c.args.n.0 in
    let d = c.args.d in
    let at = site_of places b n d in
    let on = told c.is_on.result (rw c.from.ensures at c.is_on.ensures) in
    refused-last (site_tests places b n d) (not t) NotOnIt at at c.in_ok-at.ensures (ap not (sym on ∙ c.if-not-is_on.true))

pub returns : goal.returns
returns g c t told =
    let b = c.args.self.now in
    let n = c.args.n.0 in
    let d = c.args.d in
    let at = site_of places b n d in
    let on = told c.is_on.result (rw c.from.ensures at c.is_on.ensures) in
    accepted-last (site_tests places b n d) (not t) NotOnIt at at c.in_ok-at.ensures (ap not (sym on ∙ c.if-not-is_on.false))
    (and-accepted (first_of (site_tests places b n d)) c.in_ok-at.ensures).1
