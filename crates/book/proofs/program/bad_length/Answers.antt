-- The bytes are tested for their number of steps.
use native.Mathlib.Omega.{arith}
use borrow.Author.Tests.{eq-eqb, ne_eqb}
use lib.ListN.{length}
use Rattle.book.specs.Programs.{steps}
use mathlib.Core.Path.{◌≡◌}
use Rattle.book.proofs.Laws.Steps.{length-steps}
use Rattle.book.proofs.program.bad_length.Goals as goal

pub returns-then-n-ne0 : goal.returns-then-n-ne0
returns-then-n-ne0 c = simp (ne_eqb _ 0 c.if-n-ne0.true)

pub returns-then-n-eq0 : goal.returns-then-n-eq0
returns-then-n-eq0 c =
    let none : length (steps c.args.bytes.now) ≡ 0 = omega (arith, length-steps c.args.bytes.now) in
    simp (eq-eqb _ 0 c.if-n-ne0.false, eq-eqb _ 0 none)

pub returns : goal.returns
returns c =
    let count = length-steps c.args.bytes.now in
    let some : length (steps c.args.bytes.now) ≡ 0 → ⊥ = λ e. omega arith in
    rw (eq-eqb _ 0 c.if-n-ne0.false, ne_eqb _ 0 some, count)
