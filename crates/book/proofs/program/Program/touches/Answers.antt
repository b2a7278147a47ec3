use borrow.Author.Rules.{rules}
use borrow.Author.Tests.{tests}
use mathlib.Core.Path.{◌∙◌}
use Rattle.std.proofs.lemmas.Iterator.{YieldsList-from_slice}
use Rattle.std.proofs.lemmas.Iterator.Search.{any_from_yields_List}
use Rattle.book.specs.Programs.{names, touches}
use Rattle.book.specs.States.{steps_of}
use Rattle.book.proofs.Reading.{some-step}
use Rattle.book.proofs.program.Program.touches.Goals as goal

pub returns : goal.returns
unfolding touches
returns c = any_from_yields_List (λ x. names x c.args.item) _ _ _ c.any.ensures.ran (YieldsList-from_slice (steps_of c.args.self) cc) (λ x b q k. search (rules, tests)) ∙ some-step (λ x. names x c.args.item) (steps_of c.args.self)
