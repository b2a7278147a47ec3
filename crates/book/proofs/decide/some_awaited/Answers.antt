use borrow.Author.Rules.{rules}
use borrow.Author.Tests.{tests}
use mathlib.Core.Path.{◌∙◌}
use mathlib.Core.Bool.{not, ◌&&◌}
use native.Mathlib.Omega.{arith}
use Rattle.std.proofs.lemmas.Iterator.{YieldsList-from_range}
use Rattle.std.proofs.lemmas.Iterator.Search.{any_from_yields_List}
use Rattle.conditions.specs.Sets.{member}
use Rattle.book.proofs.Lists.{any_range}
use Rattle.book.proofs.decide.some_awaited.Goals as goal

pub returns : goal.returns
returns c =
    any_from_yields_List (λ d. member c.args.o.touched d && not (member c.args.o.ready d)) _ _ _ c.any.ensures.ran (YieldsList-from_range 0 c.args.districts c.args.districts (cc) (omega arith)) (λ x b q k. search (rules, tests))
    ∙ any_range (λ d. member c.args.o.touched d && not (member c.args.o.ready d)) c.args.districts
