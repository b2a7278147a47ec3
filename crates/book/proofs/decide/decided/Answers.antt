use borrow.Author.Rules.{rules}
use borrow.Author.Tests.{tests}
use mathlib.Core.Path.{◌≡◌, sym, ap₂, ◌∙◌}
use mathlib.Core.Bool.{Bool, ◌||◌}
use lib.Dec.{eqb}
use Rattle.std.specs.List.{list_any}
use Rattle.conditions.specs.Below.{any}
use Rattle.book.specs.declared.Book.{Book}
use native.Mathlib.Omega.{arith}
use Prim.Native.Nat.{ℕ, ◌≤◌}
use lib.ListN.{take, length}
use Rattle.std.proofs.lemmas.Iterator.{YieldsList-from_slice}
use Rattle.std.proofs.lemmas.Iterator.Search.{any_from_yields_List}
use Rattle.conditions.specs.Places.{places}
use Rattle.book.specs.Book.{most_districts, no_record, record_on, record_at, void_item, open_at, item_depends, some_depends, some_on, most_items}
use Rattle.book.specs.Forget.{needed}
use Rattle.book.specs.declared.decide.Decision.{Decision}
use Rattle.book.specs.declared.decide.Decision.TheVariants.{Completed, Aborted}
use Rattle.book.specs.Decide.{decision_number, with_decision}
use Rattle.book.proofs.Lists.{any_rows}
use Rattle.book.proofs.Laws.Sound.{test-sound}
use Rattle.book.proofs.Laws.Needing.{decide-keeps, decide-frees}
use Rattle.book.proofs.decide.decided.Goals as goal

decision-some : (d : Decision) → 1 ≤ decision_number d
decision-some Completed = omega arith
decision-some Aborted = omega arith

-- the records that are lent are those of the districts
on : (b : Book) (n : ℕ) → b.districts ≤ most_districts → length b.records ≡ most_districts → {r : Bool} → r ≡ list_any (λ x. eqb (record_on x) n) (take b.districts b.records)
    → r ≡ any b.districts (λ d. eqb (record_on (record_at b d)) n)
on b n few long f = f ∙ any_rows (λ x. eqb (record_on x) n) no_record b.districts b.records (omega (arith, few, long))

pub shared_ref_as_front-some_on : goal.shared_ref_as_front-some_on
shared_ref_as_front-some_on c = (test-sound places _ c.requires.0).few_districts

pub returns-then-some_on : goal.returns-then-some_on
unfolding needed some_on
returns-then-some_on c n e = rw c.number.ensures (decide-keeps places c.args.b n (decision_number c.args.decision) (test-sound places _ c.requires.0) (omega (arith, c.requires.1)) (decision-some c.args.decision) e (rw (sym (on c.args.b (open_at c.args.b c.args.q).number.0 (test-sound places _ c.requires.0).few_districts (search rules) c.some_on.ensures) ∙ c.if-some_on.true)))

pub shared_ref_as_front-iter : goal.shared_ref_as_front-iter
shared_ref_as_front-iter c = (test-sound places _ c.requires.0).few_items

pub returns-then-any : goal.returns-then-any
unfolding needed some_on some_depends
returns-then-any c n e =
    let s = test-sound places c.args.b c.requires.0 in
    let long : length c.args.b.items ≡ most_items = search rules in
    let some = any_from_yields_List (λ x. item_depends places x c.args.q) _ _ _ c.any.ensures.ran (YieldsList-from_slice (take c.args.b.count c.args.b.items) cc) (λ x b q k. search (rules, tests))
    ∙ any_rows (λ x. item_depends places x c.args.q) void_item c.args.b.count c.args.b.items (omega (arith, s.few_items, long)) in
    rw c.number.ensures (decide-keeps places c.args.b n (decision_number c.args.decision) s (omega (arith, c.requires.1)) (decision-some c.args.decision) e (rw (sym (on c.args.b (open_at c.args.b c.args.q).number.0 (test-sound places _ c.requires.0).few_districts (search rules) c.some_on.ensures) ∙ c.if-some_on.false, sym some ∙ c.if-any.true)))

pub returns : goal.returns
unfolding needed some_on some_depends
returns c n e =
    let s = test-sound places c.args.b c.requires.0 in
    let long : length c.args.b.items ≡ most_items = search rules in
    let some = any_from_yields_List (λ x. item_depends places x c.args.q) _ _ _ c.any.ensures.ran (YieldsList-from_slice (take c.args.b.count c.args.b.items) cc) (λ x b q k. search (rules, tests))
    ∙ any_rows (λ x. item_depends places x c.args.q) void_item c.args.b.count c.args.b.items (omega (arith, s.few_items, long)) in
    rw c.number.ensures (decide-frees places c.args.b n (decision_number c.args.decision) s (omega (arith, c.requires.1)) (decision-some c.args.decision) (with_decision (decision_number c.args.decision) (open_at c.args.b c.args.q)) e (ap₂ ◌||◌ (sym (on c.args.b (open_at c.args.b c.args.q).number.0 (test-sound places _ c.requires.0).few_districts (search rules) c.some_on.ensures) ∙ c.if-some_on.false) (sym some ∙ c.if-any.false)))
