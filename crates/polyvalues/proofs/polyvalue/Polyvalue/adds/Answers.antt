-- The rows after it first, then the other polyvalue.
use mathlib.Core.Path.{refl, sym, ap, ◌∙◌}
use mathlib.Core.Bool.{not}
use Prim.Native.Nat.{◌≤◌}
use native.Mathlib.Omega.{arith}
use lib.ListN.{length}
use mir.Facts.{to_z-of_z}
use mir.Val.{bool_byte}
use borrow.Author.Tests.{not-true, not-false}
use Rattle.polyvalues.specs.Polyvalues.{most_pairs, in_use}
use Rattle.polyvalues.proofs.Known.{Held, held-long, row-fits}
use Rattle.polyvalues.proofs.Inserting.{in_use-le}
use Rattle.polyvalues.proofs.Comparing.{adds-row, byte-digit}
use Rattle.polyvalues.proofs.polyvalue.Polyvalue.adds.Goals as goal
use Rattle.polyvalues.proofs.polyvalue.Polyvalue.adds.Goals.{then-not-occurs, else-not-occurs}

few : (s : goal.Start) → length (in_use s.args.self) ≤ most_pairs
few s = let held : Held s.args.self = record { values = _; own = s.well_formed.0 } in in_use-le s.args.self (held-long held)

pub row-row-requires : goal.row-row-requires
row-row-requires c = omega (arith, few c, c.requires)

pub overflow_add-i : goal.overflow_add-i
overflow_add-i c = record { fits = omega (arith, few c.before.before.before, c.requires) }

pub returns-clause-value : goal.returns-clause-value
returns-clause-value c =
    let q = c.args.self in
    let held : Held q = record { values = _; own = c.well_formed.0 } in
    let back = to_z-of_z (row-fits held c.args.i c.row-row.ensures) in
    let later = rw back at c.occurs.ensures in
    elim c.if-not-occurs.branch [
      | then-not-occurs w ↦
          let off = not-true _ w.if-not-occurs.true-raw in
          c.from.ensures ∙ ap bool_byte w.from-is ∙ byte-digit _ ∙ adds-row q c.args.other c.args.i c.row-row.ensures c.requires (sym off ∙ later) (rw back at w.occurs-then-not-occurs.ensures)
      | else-not-occurs w ↦
          let on = not-false _ w.if-not-occurs.false-raw in
          c.from.ensures ∙ ap bool_byte (w.from-is ∙ ap not on) ∙ adds-row q c.args.other c.args.i c.row-row.ensures c.requires (sym on ∙ later) refl
    ]
