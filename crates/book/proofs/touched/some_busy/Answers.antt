use borrow.Author.Rules.{rules}
use borrow.Author.Tests.{tests}
use mathlib.Core.Path.{sym, ap, ◌∙◌}
use mathlib.Core.List.{List}
use native.Mathlib.Omega.{arith}
use lib.Seq.{take-length}
use Rattle.std.specs.List.{list_any, enumerate_from}
use mathlib.Core.Bool.{Bool, not, ◌&&◌}
use Prim.Native.Nat.{ℕ}
use lib.Dec.{eqb}
use lib.ListN.{length}
use Rattle.std.proofs.lemmas.Iterator.{YieldsList-from_slice}
use Rattle.std.proofs.lemmas.Iterator.Consumers.{YieldsList-from_enumerate}
use Rattle.std.proofs.lemmas.Iterator.Search.{any_from_yields_List}
use Rattle.conditions.specs.Sets.{member}
use Rattle.book.specs.declared.Record.{Record}
use Rattle.book.specs.Book.{no_record, record_on}
use Rattle.book.proofs.Lists.{any_numbered}
use Rattle.book.proofs.touched.some_busy.Goals as goal

pub returns : goal.returns
returns c =
    let busy : ℕ × Record → Bool = λ x. member c.args.set x.0 && not (eqb (record_on x.1) 0) in
    any_from_yields_List busy _ _ _ c.any.ensures.ran (YieldsList-from_enumerate (YieldsList-from_slice c.args.records.now cc) cc) (λ x b q k. search (rules, tests))
    ∙ ap (λ (l : List Record). list_any busy (enumerate_from 0 l)) (sym (take-length c.args.records.now))
    ∙ any_numbered no_record (length c.args.records.now) c.args.records.now (omega arith) busy
