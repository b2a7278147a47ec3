-- What the first adds, and the values of the second alone.
use native.Mathlib.Omega.{arith}
use Rattle.polyvalues.specs.Polyvalues.{in_use}
use Rattle.polyvalues.proofs.Comparing.{together-none}
use Rattle.polyvalues.proofs.polyvalue.Polyvalue.together.Goals as goal

pub overflow_add-result : goal.overflow_add-result
overflow_add-result c = record { fits = omega (arith, c.fresh.ensures.upper_bound, c.fresh-2.ensures.upper_bound) }

pub returns : goal.returns
returns c = omega (arith, c.fresh.ensures.other_value, together-none (in_use c.args.other) c.nothing.result c.fresh-2.result c.nothing.ensures c.fresh-2.ensures.other_value)
