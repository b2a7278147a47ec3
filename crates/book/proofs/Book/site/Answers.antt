-- The transaction first, and then the district.
use mathlib.Core.Path.{◌≡◌, ap, ◌∙◌}
use native.Mathlib.Omega.{arith}
use borrow.Author.Tests.{lt-ltb, le-ltb}
use Rattle.std.proofs.Common.{rules}
use Rattle.std.specs.Prelude.{Err, not}
use Rattle.conditions.specs.Places.{places}
use Rattle.book.specs.declared.Refusal.TheVariants.{NoDistrict}
use Rattle.book.specs.Answers.{first_of}
use Rattle.book.specs.Book.{place_of}
use Rattle.book.specs.Transactions.{no_district}
use Rattle.book.specs.Judged.{open_tests, site_of}
use Rattle.book.proofs.Laws.Answers.{and-accepted}
use Rattle.book.proofs.Judging.{refused-before, refused-last, accepted-last}
use Rattle.book.proofs.Book.site.Goals as goal

pub returns-in_err-q : goal.returns-in_err-q
returns-in_err-q c =
    let b = c.args.self.now in
    let n = c.args.n.0 in
    let d = c.args.d in
    let same : c.from_residual.result ≡ Err c.in_err-q.field-0.0 = search rules in
    same ∙ refused-before (open_tests places b n) (no_district b d) NoDistrict (place_of places b n) (site_of places b n d) c.in_err-q.ensures

pub returns-then-self-from : goal.returns-then-self-from
returns-then-self-from c =
    let b = c.args.self.now in
    let n = c.args.n.0 in
    let d = c.args.d in
    refused-last (open_tests places b n) (no_district b d) NoDistrict (place_of places b n) (site_of places b n d) c.in_ok-q.ensures (ap not (le-ltb d b.districts (omega arith)))

pub returns : goal.returns
returns c =
    let b = c.args.self.now in
    let n = c.args.n.0 in
    let d = c.args.d in
    accepted-last (open_tests places b n) (no_district b d) NoDistrict (place_of places b n) (site_of places b n d) c.in_ok-q.ensures (ap not (lt-ltb d b.districts (omega arith)))
    (λ k. record { number = c.args.n; place = record { 0 = (and-accepted (first_of (open_tests places b n)) c.in_ok-q.ensures).1 k }; district = d })
