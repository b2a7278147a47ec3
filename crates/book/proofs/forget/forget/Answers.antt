use mathlib.Core.Path.{◌≡◌, sym, ap, ◌∙◌}
use mathlib.Core.List.{List}
use native.Mathlib.Omega.{arith}
use borrow.Author.Rules.{rules}
use Prim.Native.Nat.{◌<◌}
use lib.ListN.{length, length-take}
use Rattle.std.proofs.lemmas.List.{get_or-take}
use Rattle.conditions.specs.Places.{places as width}
use Rattle.conditions.specs.Sets.{set_of}
use Rattle.book.specs.declared.Item.{Item}
use Rattle.book.specs.declared.Open.{Open}
use Rattle.book.specs.Book.{most_items, void_item, item_depends, with_open}
use Rattle.book.specs.Forget.{remembered, forget}
use Rattle.book.specs.Rows.{rows}
use Rattle.book.proofs.Depended.{depended-more, all-depended}
use Rattle.book.proofs.Loops.{gathered_none}
use Rattle.book.proofs.forget.forget.Goals as goal

pub loop-x-init : goal.loop-x-init
loop-x-init c = gathered_none width _

pub loop-x-preserved : goal.loop-x-preserved
loop-x-preserved c =
    let b = c.args.b in
    let i = c.loop-x.x-index in
    let below : i < b.count = omega (arith, length-take b.count b.items) in
    depended-more width b i c.loop-x.depended c.loop-x.invariant
    (c.places_of-depended.ensures ∙ ap (λ (x : Item). set_of width (item_depends width x)) (get_or-take b.count b.items i void_item below))

pub returns : goal.returns
unfolding forget
returns c =
    let b = c.args.b in
    let long : length b.items ≡ most_items = search rules in
    let last : c.loop-x.x-index ≡ b.count = omega (arith, length-take b.count b.items, c.requires.1, long) in
    let depended = all-depended width b c.loop-x.depended last c.loop-x.invariant in
    let tables = c.of.ensures depended in
    ap (λ (l : List Open). with_open b l) (c.remembered_places-b.ensures b tables ∙ ap (rows (remembered width b) width) (sym tables.places))
