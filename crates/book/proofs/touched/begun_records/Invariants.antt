-- The loop's invariant: the districts of the set before d compute.
use mathlib.Core.Path.{◌≡◌}
use mathlib.Core.Bool.{cond}
use Rattle.conditions.specs.Sets.{member}
use Rattle.book.specs.Rows.{rows}
use Rattle.book.specs.Records.{begin_record}
use Rattle.book.proofs.touched.begun_records.Given as goal

abbrev pub invariant-loop-d : goal.invariant-loop-d
invariant-loop-d l = l.r-items ≡ rows (λ d x. cond (member l.set d) (begin_record l.n.0) x) l.d l.initial.r-items
