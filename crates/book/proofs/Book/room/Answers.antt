use borrow.Author.Tests.{lt-ltb, le-ltb}
use mathlib.Core.Path.{◌≡◌, sym, ap, ap₂, ◌∙◌}
use mathlib.Core.Bool.{Bool, true, not, ◌&&◌, ◌||◌}
use Prim.Native.Nat.{ℕ, ◌<◌, ◌≤◌}
use lib.Dec.{eqb}
use lib.ListN.{length, get_or, take, length-take}
use borrow.Author.Rules.{rules}
use Rattle.std.proofs.lemmas.List.{get_or-take}
use Rattle.conditions.specs.Sets.{member}
use Rattle.book.specs.declared.Book.{Book}
use Rattle.book.specs.declared.Item.{Item}
use Rattle.book.specs.SoundTest.{sound}
use native.Mathlib.Omega.{arith}
use Rattle.conditions.specs.Places.{places}
use Rattle.book.specs.Answers.{first_of}
use Rattle.conditions.specs.Below.{any}
use Rattle.book.specs.Book.{most_districts, most_items, no_record, void_item, record_at, record_on, free_place}
use Rattle.book.specs.States.{steps_of}
use Rattle.book.proofs.Laws.Sound.{test-sound}
use Rattle.book.proofs.Loops.{gathered_none, gathered-more}
use Rattle.book.proofs.Touching.{all-touched, touched-busy}
use Rattle.std.specs.Prelude.{Ok, None}
use Rattle.book.proofs.Lists.{any_taken, found_some, found_none}
use Rattle.book.proofs.Book.room.Goals as goal

-- the loop has gone through all items
all_items : (b : Book) → sound places b ≡ true → length b.items ≡ most_items → (i : ℕ) → length (take b.count b.items) ≤ i → i ≤ length (take b.count b.items) → i ≡ b.count
all_items b s long i h l = omega (arith, length-take b.count b.items, (test-sound places b s).few_items)

-- the records that are lent are those of the districts
busy : (b : Book) → sound places b ≡ true → length b.records ≡ most_districts → (s : ℕ) {r : Bool}
    → r ≡ any (length (take b.districts b.records)) (λ d. member s d && not (eqb (record_on (get_or (take b.districts b.records) d no_record)) 0))
    → r ≡ any b.districts (λ d. member s d && not (eqb (record_on (record_at b d)) 0))
busy b e long s f = f ∙ any_taken (λ d x. member s d && not (eqb (record_on x) 0)) no_record b.districts b.records (omega (arith, (test-sound places b e).few_districts, long))

pub loop-i-init : goal.loop-i-init
loop-i-init c = (omega arith, gathered_none most_districts _)

pub shared_ref_as_front-x-items : goal.shared_ref_as_front-x-items
shared_ref_as_front-x-items c = (test-sound places _ c.requires).few_items

pub loop-i-preserved : goal.loop-i-preserved
loop-i-preserved c =
    let b = c.args.self.now in
    let i = c.loop-i.i in
    let below : i < b.count = omega (arith, length-take b.count b.items) in
    let district = ap (λ (x : Item). x.district) (get_or-take b.count b.items i void_item below) in
    (omega arith, gathered-more most_districts _ i c.loop-i.set _ c.loop-i.invariant.1 (λ d h. c.with_district-set.ensures d h ∙ ap₂ (λ (t : Bool) (e : ℕ). member c.loop-i.set d || (t && eqb e d)) c.touches.ensures district))

pub shared_ref_as_front-some_busy : goal.shared_ref_as_front-some_busy
shared_ref_as_front-some_busy c = (test-sound places c.args.self.now c.requires).few_districts

pub returns-then-some_busy : goal.returns-then-some_busy
unfolding first_of
returns-then-some_busy c =
    let last = all_items c.args.self.now c.requires (search rules) c.loop-i.i (omega arith) (omega arith) in
    rw (sym (touched-busy c.args.self.now (steps_of c.args.p) c.loop-i.set last c.loop-i.invariant places c.requires (busy c.args.self.now c.requires (search rules) c.loop-i.set c.some_busy.ensures)) ∙ c.if-some_busy.true)

pub returns-in_default : goal.returns-in_default
unfolding first_of free_place
returns-in_default c =
    let last = all_items c.args.self.now c.requires (search rules) c.loop-i.i (omega arith) (omega arith) in
    let none : c.free_place.result ≡ None = search rules in
    rw (sym (touched-busy c.args.self.now (steps_of c.args.p) c.loop-i.set last c.loop-i.invariant places c.requires (busy c.args.self.now c.requires (search rules) c.loop-i.set c.some_busy.ensures)) ∙ c.if-some_busy.false, le-ltb _ _ (found_none places (free_place places c.args.self.now) (sym c.free_place.ensures ∙ none)))

pub returns-then-self-ge-NUMBERS : goal.returns-then-self-ge-NUMBERS
unfolding first_of free_place
returns-then-self-ge-NUMBERS c =
    let at = found_some places (free_place places c.args.self.now) (sym c.free_place.ensures ∙ c.in-Some.is) in
    let last = all_items c.args.self.now c.requires (search rules) c.loop-i.i (omega arith) (omega arith) in
    rw (sym (touched-busy c.args.self.now (steps_of c.args.p) c.loop-i.set last c.loop-i.invariant places c.requires (busy c.args.self.now c.requires (search rules) c.loop-i.set c.some_busy.ensures)) ∙ c.if-some_busy.false, lt-ltb _ _ at.1, le-ltb _ _ c.if-self-ge-NUMBERS.true)

pub returns : goal.returns
unfolding first_of free_place
returns c =
    let at = found_some places (free_place places c.args.self.now) (sym c.free_place.ensures ∙ c.in-Some.is) in
    let last = all_items c.args.self.now c.requires (search rules) c.loop-i.i (omega arith) (omega arith) in
    let touched = all-touched c.args.self.now (steps_of c.args.p) c.loop-i.set last c.loop-i.invariant in
    rw (sym (touched-busy c.args.self.now (steps_of c.args.p) c.loop-i.set last c.loop-i.invariant places c.requires (busy c.args.self.now c.requires (search rules) c.loop-i.set c.some_busy.ensures)) ∙ c.if-some_busy.false, lt-ltb _ _ at.1, lt-ltb _ _ c.if-self-ge-NUMBERS.false)
    (λ k. Ok (record { place = sym at.0 k; districts = touched k }))
