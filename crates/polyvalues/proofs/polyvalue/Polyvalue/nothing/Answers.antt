-- Rows of zeros.
use mathlib.Core.Path.{refl}
use Rattle.polyvalues.specs.Polyvalues.{packed}
use Rattle.polyvalues.proofs.polyvalue.Polyvalue.nothing.Goals as goal

pub returns : goal.returns
unfolding packed
returns c = refl
