-- One item after the other.
use borrow.Author.Rules.{rules}
use mathlib.Core.Path.{◌≡◌, refl, ap, ◌∙◌}
use mathlib.Core.List.{List, ◌++◌}
use native.Mathlib.Omega.{arith}
use lib.ListN.{length, take, drop, length-take}
use Rattle.conditions.specs.Places.{places}
use Rattle.book.specs.declared.Item.{Item}
use Rattle.book.specs.Rows.{rows_from}
use Rattle.book.specs.Book.{most_items, void_item}
use Rattle.book.specs.Hear.{hear_item}
use Rattle.book.proofs.Loops.{turn, rows-taken}
use Rattle.book.proofs.hear.hear_items.Goals as goal

pub loop-x-init : goal.loop-x-init
unfolding rows_from
loop-x-init c b k = refl

pub loop-x-preserved : goal.loop-x-preserved
loop-x-preserved c b k =
    turn (λ i x. hear_item places b c.args.at.number.0 c.args.at.district c.args.at.place.0 c.args.completed x) void_item c.loop-x.x-index (take c.args.count c.args.items.now) c.loop-x.x-items c.heard.result
    (omega arith) (c.loop-x.invariant b k) (c.heard.ensures b k)

pub returns : goal.returns
returns c b k =
    let long : length c.args.items.now ≡ most_items = search rules in
    let last : c.loop-x.x-index ≡ c.args.count = omega (arith, c.requires, length-take c.args.count c.args.items.now) in
    ap (λ (l : List Item). l ++ drop c.args.count c.args.items.now) (rw last at (c.loop-x.invariant b k))
    ∙ rows-taken (λ i x. hear_item places b c.args.at.number.0 c.args.at.district c.args.at.place.0 c.args.completed x) c.args.count c.args.items.now
