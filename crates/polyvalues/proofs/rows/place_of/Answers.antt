-- At each row the value is the new one, or above it, or below it.
use mathlib.Core.Path.{sym, ◌∙◌}
use Rattle.polyvalues.proofs.Known.{Held}
use Rattle.polyvalues.proofs.Placing.{read-same, read-new, read-more}
use Rattle.polyvalues.proofs.rows.place_of.Goals as goal

pub returns-then-equal : goal.returns-then-equal
returns-then-equal c =
    let held : Held c.args.q = record { values = _; own = c.well_formed.0 } in
    read-same held c.ranges.value c.loop-k.k c.loop-k-test.true c.loop-k.invariant (sym c.equal.ensures ∙ c.if-equal.true)

pub returns-then-below : goal.returns-then-below
returns-then-below c =
    let held : Held c.args.q = record { values = _; own = c.well_formed.0 } in
    read-new held c.ranges.value c.loop-k.k c.loop-k-test.true c.loop-k.invariant (sym c.below.ensures ∙ c.if-below.true)

pub loop-k-preserved : goal.loop-k-preserved
loop-k-preserved c =
    let held : Held c.args.q = record { values = _; own = c.well_formed.0 } in
    read-more held c.ranges.value c.loop-k.k c.loop-k-test.true c.loop-k.invariant (sym c.equal.ensures ∙ c.if-equal.false) (sym c.below.ensures ∙ c.if-below.false)
