use mathlib.Core.Path.{refl, ap, ◌∙◌, subst⁻¹}
use native.Mathlib.Omega.{arith}
use Rattle.conditions.specs.Places.{places}
use Rattle.conditions.specs.Conditions.{number, union}
use Rattle.book.specs.States.{steps_of}
use Rattle.book.proofs.Laws.Sound.{test-sound}
use Rattle.book.proofs.Working.{Covering, covering-start, covering-rises, covering-next, covering-all}
use Rattle.book.proofs.alternatives.worked_out.Goals as goal

pub loop-next-init : goal.loop-next-init
loop-next-init c = subst⁻¹ (Covering c.args.b.now (steps_of c.args.p) 0) c.nothing_worked-done.ensures (covering-start c.args.b.now (steps_of c.args.p) c.requires.b_value)

pub alternative_under-start-requires : goal.alternative_under-start-requires
alternative_under-start-requires c = (test-sound places c.args.b.now c.requires.b_value).few_items

pub after-requires : goal.after-requires
after-requires c = ((test-sound places c.args.b.now c.requires.b_value).few_items, c.requires.p_value)

pub returns-in_err-done : goal.returns-in_err-done
returns-in_err-done c =
    let start = c.alternative_under-start.ensures in
    rw c.from_residual.ensures (c.in_err-done.ensures.covers c.args.b.now c.loop-next.next refl c.requires.b_value (omega arith) c.loop-next.invariant.covers start.condition_value start.starts_as)

pub loop-next-smaller : goal.loop-next-smaller
loop-next-smaller c =
    let more = c.in_ok-done.ensures.covered_value ∙ ap (union places (number c.loop-next.done.covered)) c.alternative_under-start.ensures.condition_value in
    omega (arith, covering-rises c.args.b.now (steps_of c.args.p) c.requires.b_value c.loop-next.next (omega arith) c.loop-next.invariant c.in_ok-done.done more c.complement.ensures c.lowest-next.ensures)

pub loop-next-preserved : goal.loop-next-preserved
loop-next-preserved c =
    let start = c.alternative_under-start.ensures in
    let more = c.in_ok-done.ensures.covered_value ∙ ap (union places (number c.loop-next.done.covered)) start.condition_value in
    covering-next c.args.b.now (steps_of c.args.p) c.requires.b_value c.loop-next.next (omega arith) c.loop-next.invariant c.in_ok-done.done more c.complement.ensures c.lowest-next.ensures
    (c.in_ok-done.ensures.covers c.args.b.now c.loop-next.next refl c.requires.b_value (omega arith) c.loop-next.invariant.covers start.condition_value start.starts_as)

pub returns : goal.returns
returns c = covering-all c.args.b.now (steps_of c.args.p) c.requires.b_value c.loop-next.next (omega arith) c.loop-next.invariant
