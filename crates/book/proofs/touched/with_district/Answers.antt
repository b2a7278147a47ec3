-- A district past the last one is no district's number.
use borrow.Author.Rules.{rules}
use mathlib.Core.Path.{◌≡◌, sym, ap, ◌∙◌}
use mathlib.Core.Bool.{false, or-false, and-false}
use Prim.Native.Nat.{ℕ}
use native.Mathlib.Omega.{arith}
use lib.Dec.{eqb}
use borrow.Author.Tests.{ne_eqb}
use Rattle.conditions.specs.Sets.{member}
use Rattle.book.proofs.Laws.Including.{including-either}
use Rattle.book.proofs.touched.with_district.Goals.{else-is_touched-via-then-is_touched+else-d-lt-DISTRICTS, else-is_touched-via-else-is_touched}
use Rattle.book.proofs.touched.with_district.Goals as goal

pub returns-then-d-lt-DISTRICTS : goal.returns-then-d-lt-DISTRICTS
returns-then-d-lt-DISTRICTS c = λ d h.
    let is : c.including.result ≡ Rattle.book.specs.Book.including c.args.set c.args.district = search rules in
    ap (λ (s : ℕ). member s d) is ∙ including-either c.args.set c.args.district d h ∙ rw c.if-is_touched.true

pub returns-else-is_touched : goal.returns-else-is_touched
returns-else-is_touched c = λ d h. elim c.else-is_touched.branch [
  | else-is_touched-via-then-is_touched+else-d-lt-DISTRICTS w ↦
      let past : eqb c.args.district d ≡ false = ne_eqb c.args.district d (λ e. omega arith) in
      rw (past, and-false c.args.is_touched) (sym (or-false _))
  | else-is_touched-via-else-is_touched w ↦ rw w.if-is_touched.false (sym (or-false _))
]
