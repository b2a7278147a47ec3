-- The count, the rows past it, and the rows in use.
use mathlib.Core.Path.{sym, ◌∙◌}
use mathlib.Core.Bool.{true≢false}
use borrow.Author.Tests.{le-leb, lt-leb}
use Rattle.conditions.specs.Places.{places}
use Rattle.polyvalues.specs.Polyvalues.{most_pairs, in_use, sound}
use Rattle.polyvalues.proofs.Known.{Held, held-long, conditions-of_places}
use Rattle.polyvalues.proofs.Inserting.{in_use-le}
use Rattle.polyvalues.proofs.Checking.{checked-well_formed}
use Rattle.polyvalues.proofs.polyvalue.Polyvalue.is_sound.Goals as goal
use Rattle.polyvalues.proofs.polyvalue.Polyvalue.is_sound.Goals.{then-self-le-PAIRS, else-self-le-PAIRS}

pub returns-then-is_tidy : goal.returns-then-is_tidy
unfolding sound
returns-then-is_tidy c =
    let held : Held c.args.self = record { values = _; own = c.well_formed.0 } in
    elim c.if-self-le-PAIRS.branch [
      | then-self-le-PAIRS w ↦
          c.is_checked.ensures ∙ checked-well_formed places (in_use c.args.self) (conditions-of_places held) (in_use-le c.args.self (held-long held))
          ∙ rw (le-leb c.args.self.count most_pairs w.if-self-le-PAIRS.true, sym w.is_tidy.ensures ∙ sym w.value-is ∙ c.if-is_tidy.true)
      | else-self-le-PAIRS w ↦ absurd (true≢false (sym c.if-is_tidy.true ∙ w.value-is ∙ lt-leb c.args.self.count most_pairs w.if-self-le-PAIRS.false))
    ]

pub returns-else-is_tidy : goal.returns-else-is_tidy
unfolding sound
returns-else-is_tidy c =
    elim c.if-self-le-PAIRS.branch [
      | then-self-le-PAIRS w ↦ c.if-is_tidy.false ∙ rw (le-leb c.args.self.count most_pairs w.if-self-le-PAIRS.true, sym w.is_tidy.ensures ∙ sym w.value-is ∙ c.if-is_tidy.false)
      | else-self-le-PAIRS w ↦ w.value-is ∙ rw (lt-leb c.args.self.count most_pairs w.if-self-le-PAIRS.false)
    ]
