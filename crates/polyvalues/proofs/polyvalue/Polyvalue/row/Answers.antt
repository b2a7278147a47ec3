-- The value and the condition at one index.
use mathlib.Core.Path.{sym, ◌∙◌}
use mir.Facts.{to_z-of_z}
use Rattle.polyvalues.specs.Polyvalues.{AllRows}
use Rattle.polyvalues.proofs.Laws.Paired.{paired_at}
use Rattle.polyvalues.proofs.Known.{Held, all-rows, value-fits}
use Rattle.polyvalues.proofs.polyvalue.Polyvalue.row.Goals as goal

pub returns : goal.returns
returns c =
    let q = c.args.self in
    let held : Held q = record { values = _; own = c.well_formed.0 } in
    let all : AllRows q = all-rows held in
    rw (to_z-of_z (value-fits held c.args.i)) (sym (paired_at q.values q.conditions c.args.i (all.values ∙ sym all.conditions)))
