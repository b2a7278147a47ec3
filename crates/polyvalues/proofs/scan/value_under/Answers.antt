use Rattle.polyvalues.proofs.Asking.{left-all, asked-past}
use Rattle.polyvalues.proofs.scan.value_under.Goals as goal

pub returns-then-assignment-ge-ASSIGNMENTS : goal.returns-then-assignment-ge-ASSIGNMENTS
returns-then-assignment-ge-ASSIGNMENTS c = asked-past c.args.pairs.now c.args.assignment c.if-assignment-ge-ASSIGNMENTS.true

pub loop-pair-init : goal.loop-pair-init
loop-pair-init c = left-all c.args.pairs.now c.args.assignment c.if-assignment-ge-ASSIGNMENTS.false
