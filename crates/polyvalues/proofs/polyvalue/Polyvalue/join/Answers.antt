-- The pair is joined into tidy rows.
use mathlib.Core.Path.{ap, ap₂, ◌∙◌}
use mathlib.Core.List.{List}
use lib.IntN.{ℤ}
use mir.Facts.{to_z-of_z}
use Rattle.std.specs.Prelude.{Option, ok_or}
use Rattle.conditions.specs.Places.{places}
use Rattle.polyvalues.specs.declared.polyvalue.Pair.{Pair}
use Rattle.polyvalues.specs.declared.polyvalue.NinthValue.{NinthValue}
use Rattle.polyvalues.specs.declared.polyvalue.Polyvalue.{Polyvalue}
use Rattle.polyvalues.specs.Polyvalues.{fitting}
use Rattle.polyvalues.specs.Simplify.{join}
use Rattle.polyvalues.proofs.Joining.{packed-again, packed-in_use, fitted-or}
use Rattle.polyvalues.proofs.polyvalue.Polyvalue.join.Goals as goal

pub with_pair-requires : goal.with_pair-requires
with_pair-requires c = packed-again _ c.tidied.ensures

pub returns : goal.returns
returns c =
    let same = ap₂ (λ (v : ℤ) (l : List Pair). fitting (join places v c.args.condition.0 l)) (to_z-of_z c.ranges.value) (packed-in_use _ c.tidied.ensures) in
    let unjoined : NinthValue = record { 0 = c.args.self } in
    c.ok_or.ensures.value ∙ ap (λ (o : Option Polyvalue). ok_or o unjoined) (c.with_pair.ensures ∙ same) ∙ fitted-or c.args.self _
