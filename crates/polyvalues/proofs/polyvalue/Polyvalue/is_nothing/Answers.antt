use mathlib.Core.Path.{refl, sym, ◌∙◌}
use mathlib.Core.Bool.{and-true, and_assoc}
use native.Mathlib.Numerals.{add-one}
use native.Mathlib.Omega.{arith}
use lib.ListN.{drop_of_length-le}
use lib.Seq.{drop-cons}
use Rattle.polyvalues.specs.Pairs.{no_pair}
use Rattle.polyvalues.specs.Polyvalues.{rows_of}
use Rattle.polyvalues.proofs.Known.{Held, held-long}
use Rattle.polyvalues.proofs.polyvalue.Polyvalue.is_nothing.Goals as goal

pub loop-i-init : goal.loop-i-init
loop-i-init c = let held : Held c.args.self = record { values = _; own = c.well_formed.0 } in (held-long held, refl)

pub loop-i-preserved : goal.loop-i-preserved
loop-i-preserved c =
    let at-loop = c.loop-i in (
      at-loop.invariant.0,
      rw (add-one, c.is_blank-none.ensures) (and_assoc at-loop.none _ _
          ∙ rw (drop-cons (rows_of c.args.self) at-loop.i no_pair (omega (arith, at-loop.invariant.0)), ← c.row-row.ensures) at at-loop.invariant.1),
    )

pub returns : goal.returns
returns c =
    sym (and-true c.loop-i.none)
    ∙ rw (drop_of_length-le (rows_of c.args.self) {i = c.loop-i.i} (omega (arith, c.loop-i.invariant.0))) at c.loop-i.invariant.1
