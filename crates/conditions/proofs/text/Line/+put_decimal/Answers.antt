use mathlib.Core.Path.{◌≡◌, ap}
use Prim.Native.Nat.{◌+◌, ◌/◌}
use native.Mathlib.Omega.{arith}
use lib.ListN.{length}
use Rattle.conditions.specs.Text.{decimal}
use Rattle.conditions.proofs.Laws.Text.{decimal-one, decimal-more, decimal-length}
use Rattle.conditions.proofs.Putting.{puts_then}
use Rattle.conditions.proofs.text.Line.+put_decimal.Goals as goal

pub put-requires : goal.put-requires
put-requires t c = omega (arith, c.requires, ap length (decimal-one c.args.n c.if-n-lt10.true))

pub returns-then-n-lt10 : goal.returns-then-n-lt10
returns-then-n-lt10 t c = rw (decimal-one _ c.if-n-lt10.true) c.put.ensures

pub put_decimal-requires : goal.put_decimal-requires
put_decimal-requires t c =
    let more : length (decimal c.args.n) ≡ length (decimal (c.args.n / 10)) + 1 = decimal-length c.args.n c.if-n-lt10.false in
    (omega arith, omega arith)

pub put-requires-2 : goal.put-requires-2
put-requires-2 t c = omega (arith, c.requires, c.put_decimal.ensures.put.ends, decimal-length c.args.n c.if-n-lt10.false)

pub returns : goal.returns
returns t c = rw (decimal-more _ c.if-n-lt10.false) (puts_then c.put_decimal.ensures c.put-2.ensures)
