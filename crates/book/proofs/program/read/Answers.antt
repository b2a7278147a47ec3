use mathlib.Core.Path.{◌≡◌, sym, ap, ◌∙◌}
use mathlib.Core.List.{List, ◌++◌}
use Prim.Native.Nat.{ℕ, ◌-◌, ◌/◌, ◌≤◌}
use native.Mathlib.Numerals.{add-one}
use native.Mathlib.Omega.{arith}
use lib.ListN.{length, take, drop, replicate}
use Rattle.std.proofs.lemmas.List.{length-take-le, take-replicate}
use Rattle.book.specs.declared.Step.{Step}
use Rattle.book.specs.Programs.{steps}
use Rattle.book.specs.Begin.{most_steps}
use Rattle.book.specs.States.{no_step}
use Rattle.book.proofs.Laws.Steps.{length-steps}
use Rattle.book.proofs.Filling.{filled_more, filled_rest}
use Rattle.book.proofs.Reading.{read_all}
use Rattle.book.proofs.program.read.Goals as goal

-- as many rows as there are steps
rows-long : (bytes : List ℕ) → length (steps bytes) ≤ most_steps → length (take (length bytes / 4) (replicate most_steps no_step)) ≡ length (steps bytes)
rows-long bytes few = length-take-le (length bytes / 4) (replicate most_steps no_step) (omega (arith, few, length-steps bytes)) ∙ sym (length-steps bytes)

pub step_at-requires : goal.step_at-requires
step_at-requires c = omega (arith, rows-long c.args.bytes.now c.requires)

pub slice_bounds-steps-end : goal.slice_bounds-steps-end
slice_bounds-steps-end c = omega (arith, length-steps c.args.bytes.now, c.requires)

pub slice_bounds-step-items-end : goal.slice_bounds-step-items-end
slice_bounds-step-items-end c = sym (length-steps c.args.bytes.now) ∙ sym (rows-long c.args.bytes.now c.requires)

pub loop-i-init : goal.loop-i-init
loop-i-init c =
    let n = length c.args.bytes.now / 4 in
    let all : n - 0 ≡ n = omega arith in
    take-replicate n most_steps no_step (omega (arith, length-steps c.args.bytes.now, c.requires)) ∙ ap (λ (k : ℕ). replicate k no_step) (sym all)

pub loop-i-preserved : goal.loop-i-preserved
loop-i-preserved c =
    let long = rows-long c.args.bytes.now c.requires in
    rw add-one (filled_more (λ (x : Step). x) no_step _ _ c.loop-i.i no_step (omega (arith, long)) (omega (arith, long, length-steps c.args.bytes.now)) c.loop-i.invariant c.step_at.ensures)

pub returns : goal.returns
returns c =
    let n = length c.args.bytes.now / 4 in
    let xs = steps c.args.bytes.now in
    let count = length-steps c.args.bytes.now in
    let last : c.loop-i.i ≡ n = omega (arith, rows-long c.args.bytes.now c.requires, count) in
    read_all xs n n (sym count) (sym count)
    (ap (λ (l : List Step). l ++ drop n (replicate most_steps no_step)) (rw last at c.loop-i.invariant) ∙ filled_rest (λ (x : Step). x) no_step n most_steps xs)
