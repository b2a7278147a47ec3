use borrow.Author.Rules.{rules}
use borrow.Author.Tests.{tests}
use mathlib.Core.Path.{◌∙◌}
use Rattle.std.proofs.lemmas.Iterator.{YieldsList-from_slice}
use Rattle.std.proofs.lemmas.Iterator.Search.{any_from_yields_List}
use Rattle.book.specs.Begin.{bad_step}
use Rattle.book.specs.States.{steps_of}
use Rattle.book.proofs.Reading.{some-step}
use Rattle.book.proofs.program.Program.has_bad_step.Goals as goal

pub returns : goal.returns
returns c = any_from_yields_List (bad_step) _ _ _ c.any.ensures.ran (YieldsList-from_slice (steps_of c.args.self) cc) (λ x b q k. search (rules, tests)) ∙ some-step (bad_step) (steps_of c.args.self)
