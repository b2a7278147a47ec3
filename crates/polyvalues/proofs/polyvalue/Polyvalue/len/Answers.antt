-- A count past the last row counts all rows.
use native.Mathlib.Omega.{arith}
use Rattle.polyvalues.proofs.Inserting.{in_use-length}
use Rattle.polyvalues.proofs.Known.{Held, held-long}
use Rattle.polyvalues.proofs.polyvalue.Polyvalue.len.Goals as goal

pub returns-clause-value : goal.returns-clause-value
returns-clause-value c =
    let held : Held c.args.self = record { values = _; own = c.well_formed.0 } in
    omega (arith, in_use-length c.args.self, held-long held, c.min.ensures)
