use borrow.Author.Rules.{rules}
use borrow.Author.Tests.{tests}
use mathlib.Core.Path.{◌∙◌}
use Rattle.std.proofs.lemmas.Iterator.{YieldsList-from_slice}
use Rattle.std.proofs.lemmas.Iterator.Search.{position_from_yields_List}
use Rattle.book.specs.Book.{no_open, named}
use Rattle.book.proofs.Lists.{found_first}
use Rattle.book.proofs.tables.place_of.Goals as goal

pub returns : goal.returns
returns c =
    position_from_yields_List (named c.args.n.0) _ _ _ c.position.ensures.ran (YieldsList-from_slice c.args.places cc) (λ x b q k. search (rules, tests))
    ∙ found_first (named c.args.n.0) no_open c.args.places (search rules)
