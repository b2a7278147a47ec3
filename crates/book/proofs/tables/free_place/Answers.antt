use borrow.Author.Rules.{rules}
use borrow.Author.Tests.{tests}
use mathlib.Core.Bool.{not}
use mathlib.Core.Path.{◌∙◌}
use Rattle.std.proofs.lemmas.Iterator.{YieldsList-from_slice}
use Rattle.std.proofs.lemmas.Iterator.Search.{position_from_yields_List}
use Rattle.book.specs.Book.{no_open, is_open}
use Rattle.book.proofs.Lists.{found_first}
use Rattle.book.proofs.tables.free_place.Goals as goal

pub returns : goal.returns
returns c =
    position_from_yields_List (λ o. not (is_open o)) _ _ _ c.position.ensures.ran (YieldsList-from_slice c.args.places cc) (λ x b q k. search (rules, tests))
    ∙ found_first (λ o. not (is_open o)) no_open c.args.places (search rules)
