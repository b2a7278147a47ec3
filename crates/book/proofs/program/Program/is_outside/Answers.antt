use borrow.Author.Rules.{rules}
use borrow.Author.Tests.{tests}
use mathlib.Core.Path.{◌∙◌}
use Rattle.std.proofs.lemmas.Iterator.{YieldsList-from_slice}
use Rattle.std.proofs.lemmas.Iterator.Search.{any_from_yields_List}
use Rattle.book.specs.Begin.{outside}
use Rattle.book.specs.States.{steps_of}
use Rattle.book.proofs.Reading.{some-step}
use Rattle.book.proofs.program.Program.is_outside.Goals as goal

pub returns : goal.returns
returns c = any_from_yields_List (outside c.args.count) _ _ _ c.any.ensures.ran (YieldsList-from_slice (steps_of c.args.self) cc) (λ x b q k. search (rules, tests)) ∙ some-step (outside c.args.count) (steps_of c.args.self)
