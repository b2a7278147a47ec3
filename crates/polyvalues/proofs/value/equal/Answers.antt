-- Equal bits are equal numbers.
use Rattle.polyvalues.proofs.Bits.{equal-bits}
use Rattle.polyvalues.proofs.value.equal.Goals as goal

pub returns : goal.returns
returns c = equal-bits c.args.a c.args.b c.ranges.a c.ranges.b
