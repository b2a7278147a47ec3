-- The four bytes of the step are there.
use mathlib.Core.Path.{◌∙◌}
use native.Mathlib.Omega.{arith}
use Rattle.book.proofs.Laws.Steps.{length-steps}
use Rattle.book.proofs.Naming.{back}
use Rattle.book.proofs.Reading.{step-read}
use Rattle.book.proofs.program.step_at.Goals as goal

pub overflow_mul-i : goal.overflow_mul-i
overflow_mul-i c = record { fits = omega (arith, c.requires, length-steps c.args.bytes.now) }

pub bounds-bytes-i : goal.bounds-bytes-i
bounds-bytes-i c = omega (arith, c.requires, length-steps c.args.bytes.now)

pub overflow_add-item : goal.overflow_add-item
overflow_add-item c = record { fits = omega (arith, c.requires, length-steps c.args.bytes.now) }

pub bounds-bytes-i-2 : goal.bounds-bytes-i-2
bounds-bytes-i-2 c = omega (arith, c.requires, length-steps c.args.bytes.now)

pub overflow_add-high : goal.overflow_add-high
overflow_add-high c = record { fits = omega (arith, c.requires, length-steps c.args.bytes.now) }

pub bounds-bytes-i-3 : goal.bounds-bytes-i-3
bounds-bytes-i-3 c = omega (arith, c.requires, length-steps c.args.bytes.now)

pub overflow_add-low : goal.overflow_add-low
overflow_add-low c = record { fits = omega (arith, c.requires, length-steps c.args.bytes.now) }

pub bounds-bytes-i-4 : goal.bounds-bytes-i-4
bounds-bytes-i-4 c = omega (arith, c.requires, length-steps c.args.bytes.now)

pub returns : goal.returns
returns c = step-read c.args.bytes.now c.args.j c.requires (back c.of_bytes.result c.of_bytes.type_inv ∙ c.of_bytes.ensures)
