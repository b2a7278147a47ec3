-- As it was judged.
use mathlib.Core.Path.{sym, ap, ◌∙◌}
use Rattle.conditions.specs.Places.{places}
use Rattle.book.specs.declared.site.Site.{Site}
use Rattle.book.specs.Answers.{accepted}
use Rattle.book.specs.Transactions.{done}
use Rattle.book.specs.Judged.{site_of}
use Rattle.book.specs.Ready.{ready_answer, readied, ready}
use Rattle.book.proofs.Laws.Answers.{and-accepted}
use Rattle.book.proofs.Laws.Calls.{ready-tests}
use Rattle.book.proofs.Laws.Needing.{ready-forgets-none}
use Rattle.book.proofs.Judging.{site_in, done-in_ok, done-in_err}
use Rattle.book.proofs.Book.ready.Goals as goal

pub readied-after-requires : goal.readied-after-requires
unfolding ready_answer
readied-after-requires c =
    let b = c.args.self in
    let judged = and-accepted (ready_answer places b c.args.n.0 c.args.d) c.in-Ok.ensures in
    rw judged.1 (site_in places b c.args.n.0 c.args.d _ judged.0)

pub returns-in-Ok : goal.returns-in-Ok
unfolding ready done
returns-in-Ok c =
    let b = c.args.self in
    let n = c.args.n.0 in
    let d = c.args.d in
    let judged = and-accepted (ready_answer places b n d) c.in-Ok.ensures in
    let tests = ready-tests places b n d (ap accepted judged.0) in
    done-in_ok places (ready_answer places b n d) (readied places b n d) b (site_of places b n d) c.in-Ok.ensures
    (c.readied-after.ensures ∙ ap (λ (at : Site). readied places b at.number.0 at.district) judged.1 ∙ sym (ready-forgets-none places b n d tests.sound tests.last))

pub returns-in-Err : goal.returns-in-Err
unfolding ready
returns-in-Err c =
    let b = c.args.self in
    let n = c.args.n.0 in
    let d = c.args.d in
    done-in_err places (ready_answer places b n d) (readied places b n d) b (site_of places b n d) c.in-Err.ensures
