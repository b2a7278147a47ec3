-- What events do to one item. (document 01, Events) Each gives its held and pending polyvalue.
use Rattle.std.specs.Prelude.{Bool, ◌&&◌, ℕ, eqb}
use Rattle.polyvalues.specs.declared.polyvalue.Polyvalue.{Polyvalue}
use Rattle.polyvalues.specs.Polyvalues.{in_use, packed}
use Rattle.polyvalues.specs.Operations.{reduce, select}
use Rattle.book.specs.declared.Item.{Item}
use Rattle.book.specs.declared.Book.{Book}
use Rattle.book.specs.Book.{item_on}

-- an item with these polyvalues
abbrev pub becomes : Item → Polyvalue → Polyvalue → Item
becomes x held pending = record { district = x.district; held = held; pending = pending }

-- the item is in district d
abbrev pub there : ℕ → Item → Bool
there d x = eqb x.district d

-- it is there and on the transaction number n
unfoldable pub concerned : Book → ℕ → ℕ → Item → Bool
concerned b n d x = there d x && eqb (item_on b x) n

-- "installs pending"
abbrev pub install : Item → Item
install x = becomes x x.pending x.pending

-- "drops it"; give up from computing: "pending becomes held"
abbrev pub drop : Item → Item
drop x = becomes x x.held x.held

-- "each item becomes its pending value where the transaction completes and its held value where it aborts": the transaction at place q
unfoldable pub split : ℕ → ℕ → Item → Item
split w q x =
    let both : Polyvalue = packed (select w q (in_use x.pending) (in_use x.held)) in
    becomes x both both

-- "every held and pending polyvalue there is reduced: its value under an assignment is the old one with that place set to the outcome"
unfoldable pub reduce_item : ℕ → ℕ → Bool → Item → Item
reduce_item w q outcome x = becomes x (packed (reduce w q outcome (in_use x.held))) (packed (reduce w q outcome (in_use x.pending)))
