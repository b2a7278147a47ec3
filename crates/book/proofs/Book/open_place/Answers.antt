-- Each test in its order.
use borrow.Author.Rules.{rules}
use mathlib.Core.Path.{◌≡◌, sym, ◌∙◌}
use lib.Dec.{ltb}
use Rattle.std.proofs.Common.{Some, None, Ok, Err}
use Rattle.conditions.specs.Places.{places}
use Rattle.conditions.proofs.Laws.Below.{by_cases}
use Rattle.book.specs.declared.Refusal.TheVariants.{NotOpen}
use Rattle.book.specs.Answers.{first_of}
use Rattle.book.specs.Book.{place_of}
use Rattle.book.specs.Found.{found}
use Rattle.book.proofs.Book.open_place.Goals as goal

pub returns-then-not-is_sound : goal.returns-then-not-is_sound
unfolding first_of
returns-then-not-is_sound c = rw (sym c.is_sound.ensures ∙ c.if-not-is_sound.true)

pub returns : goal.returns
unfolding first_of place_of found
returns c =
    by_cases (ltb (place_of places c.args.self.now c.args.n.0) places)
    (λ t.
    let at : c.place_of.result ≡ Some (place_of places c.args.self.now c.args.n.0) = c.place_of.ensures ∙ rw t in
    let is : c.ok_or.result ≡ Ok (place_of places c.args.self.now c.args.n.0) = search rules in
    is ∙ rw (sym c.is_sound.ensures ∙ c.if-not-is_sound.false, t))
    (λ t.
    let none : c.place_of.result ≡ None = c.place_of.ensures ∙ rw t in
    let is : c.ok_or.result ≡ Err NotOpen = search rules in
    is ∙ rw (sym c.is_sound.ensures ∙ c.if-not-is_sound.false, t))
