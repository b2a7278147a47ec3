-- A run that declines, and one that does not.
use Rattle.book.specs.Book.{most_items}
use Rattle.book.specs.States.{steps_of}
use Rattle.book.proofs.Naming.{inside-more}
use Rattle.book.proofs.Working.{no_room, covers_more}
use Rattle.book.proofs.alternatives.Worked.after.Goals as goal

pub run-end-requires : goal.run-end-requires
run-end-requires c = inside-more c.args.count most_items c.requires.0 (steps_of c.args.p) c.requires.1

pub returns-in_err-new-clause-covers : goal.returns-in_err-new-clause-covers
returns-in_err-new-clause-covers c b k e s h covers condition starts =
    let a = c.args in
    rw c.from_residual.ensures (no_room b (steps_of a.p) s (rw e c.requires.1) k h covers a.start.state starts c.run-end.ensures.answer c.run-end.ensures.values condition (rw e c.in_err-new.ensures.fits_value))

pub returns-clause-covers : goal.returns-clause-covers
returns-clause-covers c b k e s h covers condition starts =
    let a = c.args in
    covers_more b (steps_of a.p) s (rw e c.requires.1) k h covers a.start.state starts c.run-end.ensures.answer c.run-end.ensures.values condition (rw e c.in_ok-new.ensures.rows_after) c.union.ensures c.is_ok-grants.ensures.value
