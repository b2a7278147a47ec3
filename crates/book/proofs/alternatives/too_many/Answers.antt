use borrow.Author.Rules.{rules}
use borrow.Author.Tests.{tests}
use mathlib.Core.Path.{◌≡◌, refl, sym, ap, ◌∙◌}
use mathlib.Core.Bool.{Bool, ◌&&◌}
use mathlib.Core.List.{List}
use Prim.Native.Nat.{ℕ, ◌<◌}
use native.Mathlib.Omega.{arith}
use lib.Dec.{ltb}
use lib.ListN.{length, get_or, take}
use lib.Seq.{take-length}
use Rattle.std.specs.List.{zip, list_any, enumerate_from}
use Rattle.std.proofs.lemmas.List.{length-take-le, get_or-take}
use Rattle.std.proofs.lemmas.Slice.Zip.{length-zip, get_or-zip}
use Rattle.std.proofs.lemmas.Iterator.{YieldsList-from_slice, YieldsList-from_zip}
use Rattle.std.proofs.lemmas.Iterator.Consumers.{YieldsList-from_enumerate}
use Rattle.std.proofs.lemmas.Iterator.Search.{any_from_yields_List}
use Rattle.conditions.specs.Below.{any}
use Rattle.polyvalues.specs.declared.polyvalue.Polyvalue.{Polyvalue}
use Rattle.polyvalues.specs.Polyvalues.{most_pairs, in_use}
use Rattle.polyvalues.specs.Operations.{together}
use Rattle.book.specs.declared.Item.{Item}
use Rattle.book.specs.Book.{most_items, void, void_item}
use Rattle.book.specs.Begin.{too_many}
use Rattle.book.specs.Programs.{touches}
use Rattle.book.specs.States.{steps_of}
use Rattle.book.proofs.Lists.{any_numbered, any_same}
use Rattle.book.proofs.Working.{over-at, over-worked}
use Rattle.book.proofs.alternatives.too_many.Goals as goal

pub returns : goal.returns
unfolding too_many
returns c =
    let b = c.args.b.now in
    let xs = steps_of c.args.p in
    let new = c.args.w.now.new in
    let rows : List (Item × Polyvalue) = zip (take b.count b.items) new in
    let over : ℕ × (Item × Polyvalue) → Bool = λ x. touches xs x.0 && ltb most_pairs (together (in_use x.1.0.held) (in_use x.1.1)) in
    let many : length b.items ≡ most_items = search rules in
    let many-new : length new ≡ most_items = search rules in
    let taken = length-take-le b.count b.items (omega (arith, c.requires.count_le_most_items, many)) in
    let long : length rows ≡ b.count = omega (arith, length-zip (take b.count b.items) new, taken, many-new, c.requires.count_le_most_items) in
    let row : (i : ℕ) → i < b.count → over (i, get_or rows i (void_item, void)) ≡ over-at b xs i =
    λ i h. ap (λ (x : Item × Polyvalue). over (i, x)) (get_or-zip (take b.count b.items) new i (void_item, void) (omega (arith, taken)) (omega (arith, many-new, c.requires.count_le_most_items)))
    ∙ ap (λ (x : Item). over (i, (x, get_or new i void))) (get_or-take b.count b.items i void_item h)
    ∙ over-worked b xs c.requires.worked_out i h refl refl in
    any_from_yields_List over c.any.new.self _ _ c.any.ensures.ran (YieldsList-from_enumerate (YieldsList-from_zip (YieldsList-from_slice (take b.count b.items) cc) (YieldsList-from_slice new cc)) cc) (λ x b q k. search (rules, tests))
    ∙ ap (λ (l : List (Item × Polyvalue)). list_any over (enumerate_from 0 l)) (sym (take-length rows))
    ∙ any_numbered (void_item, void) (length rows) rows (omega arith) over
    ∙ ap (λ (n : ℕ). any n (λ i. over (i, get_or rows i (void_item, void)))) long
    ∙ any_same b.count _ _ row
