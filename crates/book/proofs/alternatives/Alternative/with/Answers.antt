-- The value is what its bits say.
use mathlib.Core.Path.{ap, ◌∙◌}
use lib.IntN.{ℤ}
use Rattle.book.specs.Programs.{takes}
use Rattle.book.specs.States.{state_of, state_rows}
use Rattle.book.proofs.Naming.{back}
use Rattle.book.proofs.alternatives.Alternative.with.Goals as goal

pub returns : goal.returns
returns c = record {
  condition_value = c.intersection-condition.ensures;
  state_value = c.with-state.ensures ∙ ap (λ (z : ℤ). state_rows (takes (state_of c.args.self.state) c.args.item z)) (back c.args.pair.value c.struct_told-1.given.0.1);
}
