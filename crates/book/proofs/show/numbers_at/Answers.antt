use borrow.Author.Rules.{rules}
use mathlib.Core.Path.{◌≡◌, sym, ◌∙◌}
use mathlib.Core.List.{map}
use native.Mathlib.Omega.{arith}
use Prim.Native.Nat.{ℕ, ◌<◌}
use lib.ListN.{length, get_or, length-map, get_or-map}
use Rattle.std.proofs.lemmas.List.{same_lists, get_or_default}
use Rattle.conditions.specs.Places.{places as width}
use Rattle.conditions.specs.declared.place.TransactionNumber.{TransactionNumber}
use Rattle.book.specs.declared.Open.{Open}
use Rattle.book.specs.Book.{no_open}
use Rattle.book.proofs.show.numbers_at.Goals as goal

pub returns : goal.returns
returns c =
    let h = c.map.ensures.items in
    let xs = c.args.places in
    let number : Open → TransactionNumber = λ o. o.number in
    let long : length xs ≡ width = search rules in
    let each : (i : ℕ) (d : TransactionNumber) → i < width → get_or c.map.result i d ≡ (get_or xs i no_open).number = λ i d l. (let k = (h.at i no_open d l).2 in search rules) in
    same_lists c.map.result (map number xs) (omega (arith, h.long, long, length-map xs number)) (λ i d l.
    each i d (omega (arith, h.long)) ∙ sym (get_or-map number xs i no_open) ∙ get_or_default (map number xs) i no_open.number d (omega (arith, h.long, long, length-map xs number)))
