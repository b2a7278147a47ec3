use mathlib.Core.Path.{sym, ◌∙◌}
use native.Mathlib.Numerals.{add-one}
use native.Mathlib.Omega.{arith}
use mir.Facts.{to_z-of_z}
use Rattle.polyvalues.specs.Polyvalues.{in_use}
use Rattle.polyvalues.proofs.Asking.{left-all, asked-past, left-other, left-first, left-second}
use Rattle.polyvalues.proofs.Known.{Held, row-fits}
use Rattle.polyvalues.proofs.Joining.{in_use-more}
use Rattle.polyvalues.proofs.polyvalue.Polyvalue.value_under.Goals as goal
use Rattle.polyvalues.proofs.polyvalue.Polyvalue.value_under.Goals.{then-contains+else-is_some, else-contains}

pub returns-then-assignment-ge-ASSIGNMENTS : goal.returns-then-assignment-ge-ASSIGNMENTS
returns-then-assignment-ge-ASSIGNMENTS c = asked-past (in_use c.args.self) c.args.assignment c.if-assignment-ge-ASSIGNMENTS.true

pub loop-i-init : goal.loop-i-init
loop-i-init c = left-all (in_use c.args.self) c.args.assignment c.if-assignment-ge-ASSIGNMENTS.false

pub returns-then-is_some : goal.returns-then-is_some
returns-then-is_some c =
    sym (left-second c.loop-i.found c.row-pair.result _ c.args.assignment (sym c.is_some.ensures ∙ c.if-is_some.true) (sym c.contains.ensures ∙ c.if-contains.true))
    ∙ rw (in_use-more c.args.self c.loop-i.i c.row-pair.ensures (omega (arith, c.len-i-end.ensures.value))) at c.loop-i.invariant

pub loop-i-preserved : goal.loop-i-preserved
loop-i-preserved c =
    let held : Held c.args.self = record { values = _; own = c.well_formed.0 } in
    let before = rw (in_use-more c.args.self c.loop-i.i c.row-pair.ensures (omega (arith, c.len-i-end.ensures.value))) at c.loop-i.invariant in
    elim c.if-contains.branch [
      | then-contains+else-is_some w ↦ rw (add-one, w.found-is, to_z-of_z (row-fits held c.loop-i.i c.row-pair.ensures)) (sym (left-first c.loop-i.found c.row-pair.result _ c.args.assignment (sym w.is_some.ensures ∙ w.if-is_some.false) (sym c.contains.ensures ∙ w.if-contains.true)) ∙ before)
      | else-contains w ↦ rw (add-one, w.found-is) (sym (left-other c.loop-i.found c.row-pair.result _ c.args.assignment (sym c.contains.ensures ∙ w.if-contains.false)) ∙ before)
    ]
