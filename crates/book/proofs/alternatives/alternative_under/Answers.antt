use mathlib.Core.Path.{◌≡◌, sym, ap, ◌∙◌, subst⁻¹}
use Prim.Native.Nat.{suc, ◌<◌}
use native.Mathlib.Numerals.{add-one}
use native.Mathlib.Omega.{arith}
use borrow.Author.Rules.{rules}
use lib.ListN.{length, length-take}
use Rattle.std.proofs.lemmas.List.{get_or-take}
use Rattle.polyvalues.specs.Pairs.{applying}
use Rattle.polyvalues.specs.Polyvalues.{in_use}
use Rattle.book.specs.declared.Item.{Item}
use Rattle.book.specs.Book.{most_items, void_item}
use Rattle.conditions.proofs.Laws.Conditions.{always-full}
use Rattle.book.specs.States.{steps_of}
use Rattle.book.specs.Alternatives.{block_below, block}
use Rattle.book.proofs.Working.{Choosing, choosing-other, choosing-touched}
use Rattle.book.proofs.alternatives.alternative_under.Goals as goal
use Rattle.book.proofs.alternatives.alternative_under.Goals.{then-touches, else-touches}

pub loop-i-init : goal.loop-i-init
unfolding block_below
loop-i-init c = record { within = omega arith; condition = always-full; starts = λ j h. absurd (omega arith) }

pub with-done-requires : goal.with-done-requires
with-done-requires c = omega (arith, c.requires, length-take c.args.b.now.count c.args.b.now.items)

pub loop-i-preserved : goal.loop-i-preserved
loop-i-preserved c =
    let a = c.args in
    let at_item = c.loop-i.invariant in
    let h : c.loop-i.i < a.b.now.count = omega (arith, length-take a.b.now.count a.b.now.items) in
    let held = ap (λ (x : Item). applying (in_use x.held) a.assignment) (get_or-take a.b.now.count a.b.now.items c.loop-i.i void_item h) in
    rw add-one
    (elim c.if-touches.branch [
      | then-touches w ↦
          subst⁻¹ (Choosing a.b.now (steps_of a.p) a.assignment (suc c.loop-i.i)) w.done-is
          (choosing-touched a.b.now (steps_of a.p) a.assignment c.loop-i.i c.requires h at_item (sym c.touches.ensures ∙ w.if-touches.true) (w.applying-pair.ensures ∙ held) (w.with-done.ensures.condition_value, w.with-done.ensures.state_value))
      | else-touches w ↦
          subst⁻¹ (Choosing a.b.now (steps_of a.p) a.assignment (suc c.loop-i.i)) w.done-is
          (choosing-other a.b.now (steps_of a.p) a.assignment c.loop-i.i c.requires h at_item (sym c.touches.ensures ∙ w.if-touches.false))
    ])

pub returns : goal.returns
unfolding block
returns c =
    let last : c.loop-i.i ≡ c.args.b.now.count = (let long : length c.args.b.now.items ≡ most_items = search rules in omega (arith, c.requires, long, length-take c.args.b.now.count c.args.b.now.items, c.loop-i.invariant.within)) in
    record {
      condition_value = rw last at c.loop-i.invariant.condition;
      starts_as = rw last at c.loop-i.invariant.starts;
    }
