-- The values in use, asked one by one. Equal bits are equal values.
use borrow.Author.Rules.{rules}
use borrow.Author.Tests.{tests}
use Prim.Native.Nat.{ℕ, ◌+◌, ◌-◌}
use native.Mathlib.Omega.{arith}
use mathlib.Core.Path.{◌≡◌, sym, ap, ◌∙◌}
use mathlib.Core.Bool.{Bool}
use mathlib.Core.List.{List}
use lib.Dec.{eqb}
use lib.IntN.{ℤ}
use lib.ListN.{take, drop}
use mir.Syntax.{w16}
use mir.Val.{of_z}
use Rattle.std.specs.List.{list_any}
use Rattle.std.proofs.lemmas.List.{drop-map, drop-take}
use Rattle.std.proofs.lemmas.Iterator.{YieldsList-from_slice}
use Rattle.std.proofs.lemmas.Iterator.Search.{any_from_yields_List}
use Rattle.polyvalues.specs.Values.{equal}
use Rattle.polyvalues.specs.Polyvalues.{in_use}
use Rattle.polyvalues.proofs.Bits.{equal-bits}
use Rattle.polyvalues.proofs.Known.{Held, all-rows, value-fits}
use Rattle.polyvalues.proofs.Columns.{values-in_use, any-within, any-occurs}
use Rattle.polyvalues.proofs.polyvalue.Polyvalue.occurs.Goals as goal

pub returns : goal.returns
returns c =
    let q = c.args.self in
    let v = c.args.value in
    let held : Held q = record { values = _; own = c.well_formed.0 } in
    let whole : c.args.from + (c.len.result - c.args.from) ≡ c.len.result = omega (arith, c.requires, c.len.ensures.value) in
    let bits : ℤ → Bool = λ u. eqb (of_z w16 v) (of_z w16 u) in
    any_from_yields_List bits _ _ _ c.any.ensures.ran (YieldsList-from_slice (take (c.len.result - c.args.from) (drop c.args.from q.values)) cc) (λ x b f k. search (rules, tests))
    ∙ ap (list_any bits) (sym (drop-take c.args.from (c.len.result - c.args.from) q.values) ∙ ap (λ (n : ℕ). drop c.args.from (take n q.values)) whole)
    ∙ any-within bits (equal v) c.args.from c.len.result q.values (λ i. equal-bits v _ c.ranges.value (value-fits held i))
    ∙ ap (λ (vs : List ℤ). list_any (equal v) (drop c.args.from vs)) (values-in_use (all-rows held) c.len.ensures.value)
    ∙ ap (list_any (equal v)) (drop-map (λ p. p.value) c.args.from (in_use q)) ∙ any-occurs v (drop c.args.from (in_use q))
