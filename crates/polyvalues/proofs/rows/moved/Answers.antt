-- The rows are copied one down, and the new one is put at its place.
use mathlib.Core.Path.{ap₂, ◌∙◌}
use mathlib.Core.List.{List}
use lib.IntN.{ℤ}
use lib.ListN.{set}
use mir.Facts.{to_z-of_z}
use mir.Syntax.{w16}
use mir.Val.{SFits}
use Rattle.conditions.specs.declared.condition.Condition.{Condition}
use Rattle.polyvalues.specs.Polyvalues.{paired}
use Rattle.polyvalues.proofs.Known.{Held, all-rows}
use Rattle.polyvalues.proofs.Moving.{moved-is}
use Rattle.polyvalues.proofs.rows.moved.Goals as goal

pub returns : goal.returns
returns c =
    let held : Held c.args.q = record { values = _; own = c.well_formed.0 } in
    let fits : SFits w16 c.args.new.value = record { sfits = c.struct_told-1.given.0.1 } in
    rw (to_z-of_z fits)
    (ap₂ (λ (vs : List ℤ) (cs : List Condition). paired (set vs c.args.k c.args.new.value) (set cs c.args.k c.args.new.condition)) c.copy_within.ensures.after c.copy_within-2.ensures.after
    ∙ moved-is c.args.q (all-rows held) c.args.k c.args.n c.args.new c.requires.0 c.requires.1)
