use borrow.Author.Rules.{rules}
use borrow.Author.Tests.{tests}
use lib.Dec.{eqb}
use Rattle.std.proofs.lemmas.Iterator.{YieldsList-from_slice}
use Rattle.std.proofs.lemmas.Iterator.Search.{any_from_yields_List}
use Rattle.book.specs.Book.{record_on}
use Rattle.book.proofs.tables.some_on.Goals as goal

pub returns : goal.returns
returns c = any_from_yields_List (λ r. eqb (record_on r) c.args.n.0) _ _ _ c.any.ensures.ran (YieldsList-from_slice c.args.records.now cc) (λ x b q k. search (rules, tests))
