use borrow.Author.Rules.{rules}
use mathlib.Core.Path.{◌≡◌, ap, ◌∙◌}
use mathlib.Core.List.{List, ◌++◌, map}
use Prim.Native.Nat.{ℕ, ◌≤◌, ◌-◌}
use native.Mathlib.Numerals.{add-one}
use native.Mathlib.Omega.{arith}
use lib.ListN.{length, replicate, length-take}
use lib.Seq.{take-length}
use Rattle.conditions.specs.Places.{places}
use Rattle.book.specs.declared.Item.{Item}
use Rattle.book.specs.declared.Opening.{Opening}
use Rattle.book.specs.declared.maker.Openings.{Openings}
use Rattle.book.specs.Book.{most_items, no_item}
use Rattle.book.specs.Open.{no_opening, opened_item}
use Rattle.book.proofs.Filling.{filled_upto, filled_more}
use Rattle.book.specs.Openings.{openings_of}
use Rattle.book.proofs.maker.Openings.rows.Goals as goal

-- no more count than there are rows
few : (t : Openings) → length t.items ≡ most_items → length (openings_of t) ≤ most_items
unfolding openings_of
few t long = omega (arith, length-take t.count t.items, long)

pub loop-i-init : goal.loop-i-init
loop-i-init c = ap (λ (x : Item). replicate most_items x) c.zero_item-rows.ensures

pub offset_bounds-rows-i : goal.offset_bounds-rows-i
offset_bounds-rows-i c = record { fits = omega (arith, ap length c.items-items.ensures, few c.args.self (search rules)) }

pub bounds-rows-i : goal.bounds-rows-i
bounds-rows-i c = omega (arith, ap length c.items-items.ensures, few c.args.self (search rules))

pub loop-i-preserved : goal.loop-i-preserved
loop-i-preserved c =
    rw add-one (filled_more (opened_item places) no_item most_items c.items-items.result.now c.loop-i.i no_opening (omega arith) (omega (arith, ap length c.items-items.ensures, few c.args.self (search rules))) c.loop-i.invariant c.opened.ensures)

pub returns : goal.returns
returns c =
    let xs = c.items-items.result.now in
    let all : c.loop-i.i ≡ length xs = omega arith in
    c.loop-i.invariant ∙ ap (λ (i : ℕ). filled_upto (opened_item places) no_item most_items i xs) all
    ∙ ap (λ (l : List Opening). map (opened_item places) l ++ replicate (most_items - length xs) no_item) (take-length xs)
    ∙ ap (λ (l : List Opening). map (opened_item places) l ++ replicate (most_items - length l) no_item) c.items-items.ensures
