-- One row, and rows of zeros.
use mir.Facts.{to_z-of_z}
use Rattle.polyvalues.proofs.Inserting.{certain-packed}
use Rattle.polyvalues.proofs.polyvalue.Polyvalue.certain.Goals as goal

pub returns : goal.returns
returns c = certain-packed c.nothing-q.ensures (to_z-of_z c.ranges.value)
