-- A program has all its rows.
use borrow.Author.Rules.{rules}
use Rattle.book.specs.Begin.{most_steps}
use Rattle.book.specs.States.{steps_of}
use Rattle.book.proofs.Lists.{taken}
use Rattle.book.proofs.program.Program.steps.Goals as goal

pub returns : goal.returns
unfolding steps_of
returns c = rw c.min.ensures (taken c.args.self.now.count most_steps c.args.self.now.steps (search rules))
