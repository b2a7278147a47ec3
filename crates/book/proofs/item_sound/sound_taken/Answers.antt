-- Both polyvalues, the transaction, then both together.
use borrow.Author.Rules.{rules}
use borrow.Author.Tests.{tests}
use mathlib.Core.Path.{◌≡◌, sym, ap, ◌∙◌}
use mathlib.Core.Bool.{false, and-false}
use Prim.Native.Nat.{ℕ}
use lib.Dec.{leb, ltb}
use Rattle.conditions.specs.Places.{places}
use Rattle.polyvalues.specs.Polyvalues.{most_pairs}
use Rattle.book.proofs.Depended.{set-member}
use Rattle.conditions.specs.Sets.{member, set_of}
use Rattle.conditions.proofs.Laws.Below.{by_cases}
use Rattle.conditions.proofs.Laws.Sets.{member-past, set_of-lt}
use Rattle.std.proofs.Common.{Some, None}
use Rattle.book.specs.Book.{place_of, item_depends}
use Rattle.book.specs.Found.{found}
use borrow.Author.Tests.{ltb-false}
use Rattle.book.proofs.item_sound.sound_taken.Goals.{After-is_some_and}
use Rattle.book.proofs.item_sound.sound_taken.Goals as goal

pub returns-then-not-is_sound : goal.returns-then-not-is_sound
returns-then-not-is_sound c = λ f. rw (sym c.is_sound.ensures ∙ c.if-not-is_sound.true)

pub returns-then-not-is_sound-2 : goal.returns-then-not-is_sound-2
returns-then-not-is_sound-2 c = λ f. rw (sym c.is_sound-2.ensures ∙ c.if-not-is_sound-2.true, and-false)

-- whether the item depends on its own transaction's place: on none, where that is open nowhere
own : (c : After-is_some_and) → c.args.its ≡ set_of places (item_depends places c.args.x) → c.is_some_and.result ≡ item_depends places c.args.x (place_of places c.args.b.now c.args.n.0)
unfolding found place_of
own c f =
    let q : ℕ = place_of places c.args.b.now c.args.n.0 in
    by_cases (ltb q places)
    (λ t.
    let at : c.place_of.result ≡ Some q = c.place_of.ensures ∙ rw t in
    let is : c.is_some_and.result ≡ member c.args.its q = search (rules, tests) in
    is ∙ set-member places c.args.x q f)
    (λ t.
    let none : c.place_of.result ≡ None = c.place_of.ensures ∙ rw t in
    let is : c.is_some_and.result ≡ false = search (rules, tests) in
    is ∙ sym (member-past places c.args.its q (rw f (set_of-lt places (item_depends places c.args.x))) (ltb-false q places t)) ∙ set-member places c.args.x q f)

pub returns-then-is_some_and : goal.returns-then-is_some_and
returns-then-is_some_and c = λ f. rw (sym (own c.before f) ∙ c.if-is_some_and.true, and-false)

pub returns : goal.returns
returns c = λ f. ap (λ (n : ℕ). leb n most_pairs) c.together.ensures
    ∙ rw (
      sym c.is_sound.ensures ∙ c.if-not-is_sound.false,
      sym c.is_sound-2.ensures ∙ c.if-not-is_sound-2.false,
      sym (own c.before.before.before.before f) ∙ c.if-is_some_and.false,
    )
