use mathlib.Core.Path.{refl, sym, ap, ◌∙◌}
use native.Mathlib.Numerals.{add-one}
use native.Mathlib.Omega.{arith}
use lib.ListN.{drop_of_length-le}
use mir.Facts.{to_z-of_z}
use Rattle.std.specs.Prelude.{Some}
use Rattle.conditions.specs.Places.{places}
use Rattle.polyvalues.specs.Polyvalues.{in_use, fitting}
use Rattle.polyvalues.specs.Simplify.{simplified_from}
use Rattle.polyvalues.proofs.Known.{Held, held-long, row-of_places, row-fits}
use Rattle.polyvalues.proofs.Inserting.{pair_is, in_use-le, fits-yes, fitting-yes, fitting-no}
use Rattle.polyvalues.proofs.Joining.{packed-again, packed-in_use, turn-fits, turn-full}
use Rattle.polyvalues.proofs.operations.join_rows.Goals as goal

pub loop-i-init : goal.loop-i-init
loop-i-init g c =
    let held : Held c.args.start = record { values = _; own = c.well_formed.0 } in
    (c.requires.start_tidy, in_use-le c.args.start (held-long held), λ f h. refl)

pub returns-in_err-done : goal.returns-in_err-done
returns-in_err-done g c f h =
    let held : Held c.args.rows = record { values = _; own = c.well_formed.1.0 } in
    let its = pair_is c.row-row.result.value c.cut-condition.result (h c.row-row.result.condition c.cut-condition.result (row-of_places held c.loop-i.i c.row-row.ensures) c.cut-condition.ensures) in
    let full = turn-full places f c.loop-i.done c.args.rows c.loop-i.i _
    c.row-row.ensures (omega (arith, c.len-i-end.ensures.value)) (c.loop-i.invariant.2 f h) its (sym c.in_err-done.was ∙ rw (to_z-of_z (row-fits held c.loop-i.i c.row-row.ensures)) at c.with_pair.ensures) in
    rw c.from_residual.ensures (sym (fitting-no _ full))

pub loop-i-preserved : goal.loop-i-preserved
loop-i-preserved g c =
    let held : Held c.args.rows = record { values = _; own = c.well_formed.1.0 } in
    let joined = rw (to_z-of_z (row-fits held c.loop-i.i c.row-row.ensures)) at c.with_pair.ensures in
    let fits = fits-yes _ (sym c.in_ok-done.was ∙ joined) in (
      packed-again _ fits.0,
      rw (packed-in_use _ fits.0) fits.1,
      (λ f h.
          let its = pair_is c.row-row.result.value c.cut-condition.result (h c.row-row.result.condition c.cut-condition.result (row-of_places held c.loop-i.i c.row-row.ensures) c.cut-condition.ensures) in
          rw add-one (turn-fits places f c.loop-i.done c.args.rows c.loop-i.i _
          c.row-row.ensures (omega (arith, c.len-i-end.ensures.value)) (c.loop-i.invariant.2 f h) its (sym c.in_ok-done.was ∙ joined)).2),
    )

pub returns : goal.returns
unfolding simplified_from
returns g c f h =
    let at-loop = c.loop-i in
    let is = rw (drop_of_length-le (in_use c.args.rows) {i = at-loop.i} (omega (arith, c.len-i-end.ensures.value))) at (at-loop.invariant.2 f h) in
    ap Some at-loop.invariant.0 ∙ sym (fitting-yes _ at-loop.invariant.1) ∙ ap fitting is
