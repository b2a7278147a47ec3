-- Bit d is set.
use native.Mathlib.Omega.{arith}
use Rattle.book.proofs.Districts.{including-is}
use Rattle.book.proofs.sets.including.Goals as goal

pub returns : goal.returns
returns c = including-is c.args.set c.args.d (omega arith) c.requires
