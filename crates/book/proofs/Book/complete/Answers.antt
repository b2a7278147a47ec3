-- As it was judged.
use Rattle.conditions.specs.Places.{places}
use Rattle.book.specs.Book.{place_of}
use Rattle.book.specs.Decide.{complete_answer, decide, complete}
use Rattle.book.proofs.Laws.Answers.{and-accepted}
use Rattle.book.proofs.Judging.{sound_and_open, done-in_ok, done-in_err}
use Rattle.book.proofs.Book.complete.Goals as goal

pub decided-after-requires : goal.decided-after-requires
unfolding complete_answer
decided-after-requires c =
    let b = c.args.self in
    let judged = and-accepted (complete_answer places b c.args.n.0) c.in-Ok.ensures in
    let first = sound_and_open places b c.args.n.0 _ judged.0 in
    (first.0, rw judged.1 first.1)

pub returns-in-Ok : goal.returns-in-Ok
unfolding complete
returns-in-Ok c =
    let b = c.args.self in
    let n = c.args.n.0 in
    let judged = and-accepted (complete_answer places b n) c.in-Ok.ensures in
    done-in_ok places (complete_answer places b n) (decide places b n 1) b (place_of places b n) c.in-Ok.ensures (c.decided-after.ensures n judged.1)

pub returns-in-Err : goal.returns-in-Err
unfolding complete
returns-in-Err c =
    let b = c.args.self in
    let n = c.args.n.0 in
    done-in_err places (complete_answer places b n) (decide places b n 1) b (place_of places b n) c.in-Err.ensures
