-- The conditions in use, asked one by one.
use borrow.Author.Rules.{rules}
use borrow.Author.Tests.{tests}
use mathlib.Core.Path.{ap, ◌∙◌}
use lib.ListN.{take}
use Rattle.std.specs.List.{list_any}
use Rattle.std.proofs.lemmas.Iterator.{YieldsList-from_slice}
use Rattle.std.proofs.lemmas.Iterator.Search.{any_from_yields_List}
use Rattle.conditions.specs.Places.{places}
use Rattle.conditions.specs.Conditions.{number, depends_on}
use Rattle.polyvalues.specs.Polyvalues.{in_use}
use Rattle.polyvalues.proofs.Known.{Held, all-rows}
use Rattle.polyvalues.proofs.Columns.{conditions-in_use, any-depends}
use Rattle.polyvalues.proofs.polyvalue.Polyvalue.depends.Goals as goal

pub returns : goal.returns
returns c =
    let held : Held c.args.self = record { values = _; own = c.well_formed.0 } in
    any_from_yields_List (λ x. depends_on places (number x) c.args.place.0) _ _ _ c.any.ensures.ran (YieldsList-from_slice (take c.len.result c.args.self.conditions) cc) (λ x b q k. search (rules, tests))
    ∙ ap (list_any (λ x. depends_on places (number x) c.args.place.0)) (conditions-in_use (all-rows held) c.len.ensures.value) ∙ any-depends places c.args.place.0 (in_use c.args.self)
