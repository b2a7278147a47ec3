-- As it was judged.
use mathlib.Core.Path.{refl, ap, ◌∙◌}
use Rattle.conditions.specs.Places.{places}
use Rattle.book.specs.declared.Book.{Book}
use Rattle.book.specs.declared.site.Site.{Site}
use Rattle.book.specs.Forget.{forget}
use Rattle.book.specs.Judged.{site_of}
use Rattle.book.specs.GiveUp.{give_up_answer, gave_up, give_up}
use Rattle.book.proofs.Doing.{few}
use Rattle.book.proofs.Laws.Answers.{and-accepted}
use Rattle.book.proofs.Judging.{sound_and_open, site_in, done-in_ok, done-in_err}
use Rattle.book.proofs.Book.give_up.Goals as goal

pub gave_up-after-requires : goal.gave_up-after-requires
unfolding give_up_answer
gave_up-after-requires c =
    let b = c.args.self in
    let judged = and-accepted (give_up_answer places b c.args.n.0 c.args.d) c.in-Ok.ensures in
    rw judged.1 (site_in places b c.args.n.0 c.args.d _ judged.0)

pub forget-requires : goal.forget-requires
unfolding give_up_answer gave_up
forget-requires c =
    let b = c.args.self in
    let judged = and-accepted (give_up_answer places b c.args.n.0 c.args.d) c.in-Ok.ensures in
    few places b (sound_and_open places b c.args.n.0 _ judged.0).0 c.gave_up-after.ensures refl refl

pub returns-in-Ok : goal.returns-in-Ok
unfolding give_up
returns-in-Ok c =
    let b = c.args.self in
    let n = c.args.n.0 in
    let d = c.args.d in
    let judged = and-accepted (give_up_answer places b n d) c.in-Ok.ensures in
    done-in_ok places (give_up_answer places b n d) (gave_up places b n d) b (site_of places b n d) c.in-Ok.ensures
    (c.forget.ensures ∙ ap (λ (a : Book). forget places a) (c.gave_up-after.ensures ∙ ap (λ (at : Site). gave_up places b at.number.0 at.district) judged.1))

pub returns-in-Err : goal.returns-in-Err
unfolding give_up
returns-in-Err c =
    let b = c.args.self in
    let n = c.args.n.0 in
    let d = c.args.d in
    done-in_err places (give_up_answer places b n d) (gave_up places b n d) b (site_of places b n d) c.in-Err.ensures
