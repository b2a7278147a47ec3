-- The decision, the districts, then the polyvalues.
use mathlib.Core.Path.{◌≡◌, sym, ◌∙◌}
use borrow.Author.Rules.{rules}
use mathlib.Core.Bool.{Bool}
use Prim.Native.Nat.{ℕ, ◌≤◌}
use lib.Dec.{eqb}
use lib.ListN.{length, get_or, take}
use Rattle.std.specs.List.{list_any}
use Rattle.conditions.specs.Below.{any}
use Rattle.book.specs.declared.tables.Tables.{Tables}
use Rattle.book.specs.Book.{no_record, record_on, some_on}
use Rattle.book.proofs.Lists.{any_rows}
use Rattle.book.specs.Forget.{needed, kept}
use Rattle.book.proofs.forget.is_kept.Goals as goal

-- the records that are lent are those of the districts
on : (t : Tables) (n : ℕ) → t.districts ≤ length t.records → {r : Bool} → r ≡ list_any (λ x. eqb (record_on x) n) (take t.districts t.records)
    → r ≡ any t.districts (λ d. eqb (record_on (get_or t.records d no_record)) n)
on t n h f = f ∙ any_rows (λ x. eqb (record_on x) n) no_record t.districts t.records h

pub returns-then-not-is_decided : goal.returns-then-not-is_decided
unfolding kept
returns-then-not-is_decided c b o = rw (sym c.is_decided.ensures ∙ c.if-not-is_decided.true)

pub returns-then-some_on : goal.returns-then-some_on
unfolding kept needed some_on
returns-then-some_on c b o = c.if-some_on.true ∙ rw (sym c.is_decided.ensures ∙ c.if-not-is_decided.false, o.districts, o.records, sym (on c.args.t c.args.o.number.0 (search rules) c.some_on.ensures) ∙ c.if-some_on.true)

pub returns-else-some_on : goal.returns-else-some_on
unfolding kept needed some_on
returns-else-some_on c b o =
    c.has.ensures ∙ o.depended c.args.q c.requires
    ∙ rw (sym c.is_decided.ensures ∙ c.if-not-is_decided.false, o.districts, o.records, sym (on c.args.t c.args.o.number.0 (search rules) c.some_on.ensures) ∙ c.if-some_on.false)
