use borrow.Author.Rules.{rules}
use borrow.Author.Tests.{tests}
use mathlib.Core.Path.{◌∙◌}
use Rattle.std.proofs.lemmas.Iterator.{YieldsList-from_slice}
use Rattle.std.proofs.lemmas.Iterator.Search.{all_from_yields_List}
use Rattle.book.specs.Open.{good_item}
use Rattle.book.proofs.Making.{each-good}
use Rattle.book.specs.Openings.{openings_of}
use Rattle.book.proofs.maker.Openings.are_good.Goals as goal

pub returns : goal.returns
returns c =
    all_from_yields_List (good_item c.args.districts) _ _ _ c.all.ensures.ran (YieldsList-from_slice (openings_of c.args.self) cc) (λ x b q k. search (rules, tests))
    ∙ each-good c.args.districts (openings_of c.args.self)
