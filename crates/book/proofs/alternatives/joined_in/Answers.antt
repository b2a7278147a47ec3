use mathlib.Core.Path.{◌≡◌, sym, ap, ◌∙◌}
use mathlib.Core.Bool.{Bool}
use native.Mathlib.Numerals.{add-one}
use native.Mathlib.Omega.{arith}
use borrow.Author.Rules.{rules}
use lib.ListN.{length, get_or, drop}
use Rattle.conditions.specs.Places.{places}
use Rattle.conditions.specs.Conditions.{number}
use Rattle.book.specs.Book.{most_items, void}
use Rattle.book.specs.States.{steps_of, state_of}
use Rattle.book.specs.Programs.{touches}
use Rattle.book.specs.Alternatives.{joined_row}
use Rattle.book.proofs.Working.{joining-start, joining-next, joining-fails, joining-done}
use Rattle.book.proofs.alternatives.joined_in.Goals as goal
use Rattle.book.proofs.alternatives.joined_in.Goals.{After-joined_row}

pub loop-i-init : goal.loop-i-init
loop-i-init c = let long : length c.args.new ≡ most_items = search rules in joining-start (steps_of c.args.p) c.args.s (number c.args.condition) c.args.new c.args.count (omega (arith, c.requires, long))

-- the row that is joined
row : (c : After-joined_row) → c.joined_row.result ≡ joined_row places (touches (steps_of c.args.p) c.loop-i.i) (state_of c.args.s c.loop-i.i) (number c.args.condition) (get_or c.loop-i.x-items c.loop-i.i void)
unfolding state_of
row c = c.joined_row.ensures ∙ ap (λ (t : Bool). joined_row places t (state_of c.args.s c.loop-i.i) (number c.args.condition) (get_or c.loop-i.x-items c.loop-i.i void)) c.touches.ensures

pub returns-in_err-x-clause-fits_value : goal.returns-in_err-x-clause-fits_value
returns-in_err-x-clause-fits_value c =
    let a = c.args in
    rw c.from_residual.ensures (joining-fails (steps_of a.p) a.s (number a.condition) a.new a.count c.loop-i.i (omega (arith, c.loop-i.invariant.long)) c.loop-i.invariant (sym c.in_err-x.was ∙ row c.before.before.before))

pub loop-i-preserved : goal.loop-i-preserved
loop-i-preserved c =
    let a = c.args in
    rw add-one (joining-next (steps_of a.p) a.s (number a.condition) a.new a.count c.loop-i.i (omega (arith, c.loop-i.invariant.long)) c.loop-i.invariant (sym c.in_ok-x.was ∙ row c.before.before))

pub returns-clause-fits_value : goal.returns-clause-fits_value
returns-clause-fits_value c =
    let last : c.loop-i.i ≡ c.args.count = omega (arith, c.loop-i.invariant.long) in
    sym (rw last at c.loop-i.invariant).fits

pub returns-clause-rows_after : goal.returns-clause-rows_after
returns-clause-rows_after c =
    let last : c.loop-i.i ≡ c.args.count = omega (arith, c.loop-i.invariant.long) in
    joining-done (steps_of c.args.p) c.args.s (number c.args.condition) c.args.new c.args.count (drop c.args.count c.args.new) (rw last at c.loop-i.invariant)
