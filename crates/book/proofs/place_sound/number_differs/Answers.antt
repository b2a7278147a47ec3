use borrow.Author.Rules.{rules}
use borrow.Author.Tests.{tests}
use mathlib.Core.Path.{◌∙◌}
use mathlib.Core.Bool.{Bool, not}
use lib.Dec.{eqb}
use lib.ListN.{take}
use Rattle.std.proofs.lemmas.Iterator.{YieldsList-from_slice}
use Rattle.std.proofs.lemmas.Iterator.Search.{all_from_yields_List}
use Rattle.book.specs.declared.Open.{Open}
use Rattle.book.specs.Book.{no_open}
use Rattle.book.proofs.Lists.{all_rows}
use Rattle.book.proofs.place_sound.number_differs.Goals as goal

pub returns : goal.returns
returns c =
    let differs : Open → Bool = λ o. not (eqb o.number.0 c.args.n.0) in
    all_from_yields_List differs _ _ _ c.all.ensures.ran (YieldsList-from_slice (take c.args.q c.args.places) cc) (λ x b q k. search (rules, tests))
    ∙ all_rows differs no_open c.args.q c.args.places (search rules)
