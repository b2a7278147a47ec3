use mathlib.Core.Path.{refl}
use Prim.Native.Nat.{◌<◌, ◌^◌}
use native.Mathlib.Numerals.{add-one}
use native.Mathlib.Omega.{arith}
use lib.Bits.{or_lt}
use lib.ListN.{length}
use Rattle.conditions.specs.Places.{places as width}
use Rattle.conditions.specs.Conditions.{depends_on}
use Rattle.conditions.proofs.Laws.Sets.{set_of-lt}
use Rattle.polyvalues.specs.Polyvalues.{in_use}
use Rattle.polyvalues.proofs.Known.{Held, all-rows}
use Rattle.polyvalues.proofs.Columns.{conditions-long, condition_at}
use Rattle.polyvalues.proofs.Joining.{places-none, places-more, places-done}
use Rattle.polyvalues.proofs.polyvalue.Polyvalue.places.Goals as goal

pub loop-c-init : goal.loop-c-init
loop-c-init c = (omega arith, places-none c.args.self)

pub loop-c-preserved : goal.loop-c-preserved
loop-c-preserved c =
    let at-loop = c.loop-c in
    let held : Held c.args.self = record { values = _; own = c.well_formed.0 } in
    let long = conditions-long (all-rows held) c.len.ensures.value in
    let inside : at-loop.c-index < length (in_use c.args.self) = omega (arith, long) in
    let fits : c.places-set.result < 2 ^ width = rw c.places-set.ensures (set_of-lt width (depends_on width _)) in (
      or_lt width at-loop.set c.places-set.result at-loop.invariant.0 fits,
      rw add-one (places-more c.args.self at-loop.c-index at-loop.set refl inside (rw (condition_at (all-rows held) c.len.ensures.value at-loop.c-index inside) at c.places-set.ensures) at-loop.invariant.1),
    )

pub returns : goal.returns
returns c =
    let held : Held c.args.self = record { values = _; own = c.well_formed.0 } in
    places-done c.args.self c.loop-c.c-index c.loop-c.set (omega (arith, conditions-long (all-rows held) c.len.ensures.value)) c.loop-c.invariant.0 c.loop-c.invariant.1
