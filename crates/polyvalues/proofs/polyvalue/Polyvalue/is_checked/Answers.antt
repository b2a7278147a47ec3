use mathlib.Core.Path.{refl, sym, ap, ◌∙◌}
use native.Mathlib.Numerals.{add-one}
use native.Mathlib.Omega.{arith}
use lib.Dec.{eqb}
use lib.ListN.{drop_of_length-le}
use borrow.Author.Tests.{not-true, not-false}
use Rattle.conditions.proofs.Laws.Conditions.{always-full}
use Rattle.polyvalues.specs.Polyvalues.{in_use}
use Rattle.polyvalues.specs.Checked.{checked_from}
use Rattle.polyvalues.proofs.Joining.{in_use-more}
use Rattle.polyvalues.proofs.polyvalue.Polyvalue.is_checked.Goals as goal

pub loop-i-init : goal.loop-i-init
loop-i-init c = refl

pub returns-then-not-follows : goal.returns-then-not-follows
unfolding checked_from
returns-then-not-follows c = rw (in_use-more c.args.self c.loop-i.i c.row-row.ensures (omega (arith, c.len-i-end.ensures.value)), sym c.follows.ensures ∙ not-true _ c.if-not-follows.true-raw) at c.loop-i.invariant

pub loop-i-preserved : goal.loop-i-preserved
unfolding checked_from
loop-i-preserved c =
    rw (add-one, c.union-covered.ensures)
    (rw (in_use-more c.args.self c.loop-i.i c.row-row.ensures (omega (arith, c.len-i-end.ensures.value)), sym c.follows.ensures ∙ not-false _ c.if-not-follows.false-raw) at c.loop-i.invariant)

pub returns : goal.returns
unfolding checked_from
returns c =
    c.same.ensures ∙ ap (eqb c.loop-i.covered.0) always-full
    ∙ rw (drop_of_length-le (in_use c.args.self) {i = c.loop-i.i} (omega (arith, c.len-i-end.ensures.value))) at c.loop-i.invariant
