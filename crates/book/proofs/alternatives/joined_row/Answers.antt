-- An item that is not touched keeps its row.
use mathlib.Core.Path.{ap, ◌∙◌}
use lib.IntN.{ℤ}
use Rattle.std.specs.Result.{result_ok}
use Rattle.conditions.specs.Places.{places}
use Rattle.conditions.specs.Conditions.{number}
use Rattle.polyvalues.specs.Polyvalues.{in_use, fitting}
use Rattle.polyvalues.specs.Simplify.{join}
use Rattle.polyvalues.proofs.Inserting.{fitted-ok}
use Rattle.book.specs.Alternatives.{joined_row}
use Rattle.book.proofs.Naming.{back}
use Rattle.book.proofs.alternatives.joined_row.Goals as goal

pub returns-then-touched : goal.returns-then-touched
unfolding joined_row
returns-then-touched c =
    let old = c.args.old in
    rw c.if-touched.true (c.ok.ensures.value ∙ ap result_ok c.join.ensures ∙ fitted-ok old _
    ∙ ap (λ (z : ℤ). fitting (join places z (number c.args.condition) (in_use old))) (back c.args.value.0 c.struct_told-1.given.0.1))

pub returns : goal.returns
unfolding joined_row
returns c = rw c.if-touched.false
