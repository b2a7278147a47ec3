-- One law for each kind of step.
use borrow.Author.Rules.{rules}
use mathlib.Core.Path.{◌≡◌, sym, ◌∙◌}
use native.Mathlib.Omega.{arith}
use lib.IntN.{◌+ℤ◌}
use Rattle.polyvalues.specs.Values.{below}
use Rattle.book.specs.Book.{most_items}
use Rattle.book.specs.Programs.{numbered}
use Rattle.book.specs.States.{state_of, added}
use Rattle.book.proofs.Laws.Touched.{item-below, source-below}
use Rattle.book.proofs.Running.{stepped-declines, stepped-need, stepped-add, stepped-set, stepped-copy, stepped-other}
use Rattle.book.proofs.state.State.after.Goals as goal

pub bounds-self-item : goal.bounds-self-item
bounds-self-item c = omega (arith, item-below most_items c.args.x c.requires)

pub with_sum-requires : goal.with_sum-requires
with_sum-requires c = omega (arith, item-below most_items c.args.x c.requires)

pub with-requires : goal.with-requires
with-requires c = omega (arith, item-below most_items c.args.x c.requires)

pub bounds-self-numbered : goal.bounds-self-numbered
bounds-self-numbered c =
    let kind : c.args.x.kind ≡ 4 = search rules in
    let source : c.numbered.result ≡ numbered c.args.x.operand = search rules in
    omega (arith, source-below most_items c.args.x c.requires kind)

pub with-requires-in-Ok-Copy : goal.with-requires-in-Ok-Copy
with-requires-in-Ok-Copy c = omega (arith, item-below most_items c.args.x c.requires)

pub returns-then-below : goal.returns-then-below
unfolding state_of
returns-then-below c =
    let kind : c.args.x.kind ≡ 1 = search rules in
    let less : c.below.result ≡ below (state_of c.args.self c.args.x.item) c.args.x.operand = search rules in
    stepped-declines c.args.x c.args.self kind (sym less ∙ c.if-below.true)

pub returns-else-below : goal.returns-else-below
unfolding state_of
returns-else-below c =
    let kind : c.args.x.kind ≡ 1 = search rules in
    let less : c.below.result ≡ below (state_of c.args.self c.args.x.item) c.args.x.operand = search rules in
    stepped-need c.args.x c.args.self (search rules) kind (sym less ∙ c.if-below.false)

pub returns-in-Ok-Add : goal.returns-in-Ok-Add
unfolding state_of
returns-in-Ok-Add c =
    let kind : c.args.x.kind ≡ 2 = search rules in
    let is : c.with_sum.result ≡ added (state_of c.args.self) c.args.x.item (state_of c.args.self c.args.x.item +ℤ c.args.x.operand) = search rules in
    is ∙ stepped-add c.args.x c.args.self kind

pub returns-in-Ok-Set : goal.returns-in-Ok-Set
returns-in-Ok-Set c =
    let kind : c.args.x.kind ≡ 3 = search rules in
    stepped-set c.args.x c.args.self kind (search rules)

pub returns-in-Ok-Copy : goal.returns-in-Ok-Copy
unfolding state_of
returns-in-Ok-Copy c =
    let kind : c.args.x.kind ≡ 4 = search rules in
    stepped-copy c.args.x c.args.self kind (search rules)

pub returns-in-Err : goal.returns-in-Err
returns-in-Err c =
    stepped-other c.args.x c.args.self (search rules) c.in-Err.ensures
