use mathlib.Core.Path.{refl, sym, ◌∙◌}
use native.Mathlib.Numerals.{add-one}
use native.Mathlib.Omega.{arith}
use lib.ListN.{drop_of_length-le}
use lib.Seq.{drop-cons}
use borrow.Author.Tests.{not-true, not-false}
use Rattle.polyvalues.specs.Pairs.{no_pair}
use Rattle.polyvalues.specs.Polyvalues.{rows_of, tidy}
use Rattle.polyvalues.proofs.Known.{Held, held-long}
use Rattle.polyvalues.proofs.polyvalue.Polyvalue.is_tidy.Goals as goal

pub loop-i-init : goal.loop-i-init
loop-i-init c = let held : Held c.args.self = record { values = _; own = c.well_formed.0 } in (held-long held, refl)

pub returns-then-not-is_blank : goal.returns-then-not-is_blank
unfolding tidy
returns-then-not-is_blank c = rw (drop-cons (rows_of c.args.self) c.loop-i.i no_pair (omega (arith, c.loop-i.invariant.0)), ← c.row-row.ensures, sym c.is_blank.ensures ∙ not-true _ c.if-not-is_blank.true-raw) at c.loop-i.invariant.1

pub loop-i-preserved : goal.loop-i-preserved
loop-i-preserved c = (c.loop-i.invariant.0, rw add-one (rw (drop-cons (rows_of c.args.self) c.loop-i.i no_pair (omega (arith, c.loop-i.invariant.0)), ← c.row-row.ensures, sym c.is_blank.ensures ∙ not-false _ c.if-not-is_blank.false-raw) at c.loop-i.invariant.1))

pub returns : goal.returns
unfolding tidy
returns c = rw (drop_of_length-le (rows_of c.args.self) {i = c.loop-i.i} (omega (arith, c.loop-i.invariant.0))) at c.loop-i.invariant.1
