-- A row is set.
use Rattle.book.proofs.States.{Held, values-long, set-rows}
use Rattle.book.proofs.state.State.with.Goals as goal

pub returns : goal.returns
returns c =
    let held : Held c.args.self = record { values = _; own = c.well_formed.0 } in
    set-rows c.args.self c.args.item c.args.value (values-long held) c.requires
