-- Nothing is added under an empty condition.
use mathlib.Core.Path.{sym, ap, ◌∙◌}
use Rattle.std.specs.Prelude.{Some}
use Rattle.polyvalues.specs.Simplify.{join}
use Rattle.polyvalues.proofs.Known.{Held, held-long}
use Rattle.polyvalues.proofs.Inserting.{fitting-yes, in_use-le}
use Rattle.polyvalues.proofs.rows.with_pair.Goals as goal

pub returns-then-is_empty : goal.returns-then-is_empty
unfolding join
returns-then-is_empty c =
    let held : Held c.args.q = record { values = _; own = c.well_formed.0 } in
    rw (sym c.is_empty.ensures ∙ c.if-is_empty.true) (ap Some c.requires ∙ sym (fitting-yes _ (in_use-le c.args.q (held-long held))))

pub returns : goal.returns
unfolding join
returns c = c.inserted.ensures ∙ rw (sym c.is_empty.ensures ∙ c.if-is_empty.false)
