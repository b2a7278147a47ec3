use native.Mathlib.Numerals.{add-one}
use native.Mathlib.Omega.{arith}
use lib.ListN.{drop_of_length-le}
use lib.Seq.{drop-cons}
use Rattle.polyvalues.specs.Pairs.{no_pair}
use Rattle.polyvalues.specs.Polyvalues.{in_use}
use Rattle.polyvalues.specs.Operations.{different, together}
use Rattle.polyvalues.proofs.polyvalue.Polyvalue.fresh.Goals as goal

pub loop-i-init : goal.loop-i-init
loop-i-init c = (omega arith, omega arith)

pub adds-count-requires : goal.adds-count-requires
adds-count-requires c = omega (arith, c.len-i-end.ensures.value)

pub overflow_add-count : goal.overflow_add-count
overflow_add-count c = record { fits = omega (arith, c.adds-count.ensures.upper_bound, c.loop-i.invariant.0, c.len-i-end.ensures.upper_bound) }

pub loop-i-preserved : goal.loop-i-preserved
unfolding different
loop-i-preserved c =
    let row = rw (drop-cons (in_use c.args.self) c.loop-i.i no_pair (omega (arith, c.len-i-end.ensures.value))) at c.loop-i.invariant.1 in
    (omega (arith, c.adds-count.ensures.upper_bound, c.loop-i.invariant.0), rw add-one (omega (arith, row, c.adds-count.ensures.value)))

pub returns : goal.returns
unfolding together
returns c =
    record {
      other_value = rw (drop_of_length-le (in_use c.args.self) {i = c.loop-i.i} (omega (arith, c.len-i-end.ensures.value))) at c.loop-i.invariant.1;
      upper_bound = omega (arith, c.loop-i.invariant.0, c.len-i-end.ensures.upper_bound);
    }
