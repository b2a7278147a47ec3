use mathlib.Core.Path.{◌≡◌, refl}
use native.Mathlib.Omega.{arith}
use Rattle.conditions.specs.Places.{places as width}
use Rattle.book.specs.Rows.{rows_from}
use Rattle.book.specs.Book.{no_open}
use Rattle.book.specs.Forget.{remembered}
use Rattle.book.proofs.Known.{HeldTables, places-long}
use Rattle.book.proofs.Loops.{turn}
use Rattle.book.proofs.forget.remembered_places.Goals as goal

pub loop-q-init : goal.loop-q-init
unfolding rows_from
loop-q-init c = λ b o. refl

pub remembered-requires : goal.remembered-requires
remembered-requires c = omega arith

pub loop-q-preserved : goal.loop-q-preserved
loop-q-preserved c =
    let held : HeldTables c.args.t = record { values = _; own = c.well_formed.0 } in
    λ b o. turn (remembered width b) no_open c.loop-q.q c.args.t.«open» c.loop-q.o-items c.remembered.result (omega (arith, places-long held)) (c.loop-q.invariant b o) (c.remembered.ensures b o)

pub returns : goal.returns
returns c b o = let last : c.loop-q.q ≡ width = omega arith in rw last at (c.loop-q.invariant b o)
