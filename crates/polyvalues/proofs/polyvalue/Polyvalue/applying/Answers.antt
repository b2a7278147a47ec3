-- The conditions in use, asked one by one, and the row of the first.
use borrow.Author.Rules.{rules}
use borrow.Author.Tests.{tests}
use mathlib.Core.Path.{sym, ◌∙◌}
use lib.ListN.{take}
use Rattle.std.proofs.lemmas.Iterator.{YieldsList-from_slice}
use Rattle.std.proofs.lemmas.Iterator.Search.{position_from_yields_List}
use Rattle.polyvalues.specs.Polyvalues.{in_use}
use Rattle.polyvalues.proofs.Known.{Held, all-rows}
use Rattle.polyvalues.proofs.Inserting.{in_use-row}
use Rattle.polyvalues.proofs.Columns.{conditions-in_use, applies_at, applying-some, applying-none}
use Rattle.polyvalues.proofs.polyvalue.Polyvalue.applying.Goals as goal

pub returns-in-Some : goal.returns-in-Some
returns-in-Some c =
    let held : Held c.args.self = record { values = _; own = c.well_formed.0 } in
    let found = position_from_yields_List (applies_at c.args.assignment) _ _ _ c.position-first.ensures.ran (YieldsList-from_slice (take c.len.result c.args.self.conditions) cc) (λ x b q k. search (rules, tests)) in
    let first = applying-some c.args.assignment (in_use c.args.self) (sym (rw (conditions-in_use (all-rows held) c.len.ensures.value) at found) ∙ c.in-Some.is) in
    sym (in_use-row c.args.self c.in-Some.i c.row.ensures first.0) ∙ first.1

pub returns-in-None : goal.returns-in-None
returns-in-None c =
    let held : Held c.args.self = record { values = _; own = c.well_formed.0 } in
    let found = position_from_yields_List (applies_at c.args.assignment) _ _ _ c.position-first.ensures.ran (YieldsList-from_slice (take c.len.result c.args.self.conditions) cc) (λ x b q k. search (rules, tests)) in
    applying-none c.args.assignment (in_use c.args.self) (sym (rw (conditions-in_use (all-rows held) c.len.ensures.value) at found) ∙ c.in-None.is)
