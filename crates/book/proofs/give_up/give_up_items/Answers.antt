-- One item after the other.
use borrow.Author.Rules.{rules}
use mathlib.Core.Path.{◌≡◌, refl, ap, ◌∙◌}
use mathlib.Core.List.{List, [], ◌++◌}
use Prim.Native.Nat.{ℕ, ◌<◌}
use native.Mathlib.Omega.{arith}
use lib.ListN.{length, get_or, take, drop, length-take}
use Rattle.std.proofs.lemmas.List.{get_or-take}
use Rattle.book.specs.declared.Book.{Book}
use Rattle.book.proofs.Laws.Rows.{past-rows}
use Rattle.conditions.specs.Places.{places}
use Rattle.book.specs.declared.Item.{Item}
use Rattle.book.specs.Rows.{rows_from}
use Rattle.book.specs.Book.{most_items, void_item}
use Rattle.book.specs.GiveUp.{give_up_item}
use Rattle.book.proofs.Loops.{turn, rows-taken}
use Rattle.book.proofs.give_up.give_up_items.Goals as goal

pub loop-x-init : goal.loop-x-init
unfolding rows_from
loop-x-init c b k = refl

-- an item that waits is still the one that stood there
pub given_up-requires : goal.given_up-requires
given_up-requires c =
    let i = c.loop-x.x-index in
    let xs = c.args.items.now in
    let any : Book = record { last = record { 0 = 0 }; districts = 0; records = c.args.records; count = 0; items = []; «open» = [] } in
    let f : ℕ → Item → Item = λ i x. give_up_item places any c.args.at.number.0 c.args.at.district c.args.at.place.0 c.args.computing x in
    let below : i < c.args.count = omega (arith, length-take c.args.count xs) in
    let waits : get_or c.loop-x.x-items i void_item ≡ get_or xs i void_item =
    ap (λ (l : List Item). get_or l i void_item) (c.loop-x.invariant any refl) ∙ past-rows f void_item i (take c.args.count xs) i (omega arith) ∙ get_or-take c.args.count xs i void_item below in
    rw waits (c.requires.small i below)

pub loop-x-preserved : goal.loop-x-preserved
loop-x-preserved c b k =
    turn (λ i x. give_up_item places b c.args.at.number.0 c.args.at.district c.args.at.place.0 c.args.computing x) void_item c.loop-x.x-index (take c.args.count c.args.items.now) c.loop-x.x-items c.given_up.result
    (omega arith) (c.loop-x.invariant b k) (c.given_up.ensures b k)

pub returns : goal.returns
returns c b k =
    let long : length c.args.items.now ≡ most_items = search rules in
    let last : c.loop-x.x-index ≡ c.args.count = omega (arith, c.requires.few, length-take c.args.count c.args.items.now) in
    ap (λ (l : List Item). l ++ drop c.args.count c.args.items.now) (rw last at (c.loop-x.invariant b k))
    ∙ rows-taken (λ i x. give_up_item places b c.args.at.number.0 c.args.at.district c.args.at.place.0 c.args.computing x) c.args.count c.args.items.now
