-- The position, and then the answer number.
use mathlib.Core.Path.{◌∙◌}
use Rattle.sheet.proofs.Writing.{head-fields, puts_then}
use Rattle.sheet.proofs.lines.Line.head.Goals as goal

pub returns-clause-put : goal.returns-clause-put
returns-clause-put c =
    let number = c.from.ensures ∙ c.answer_number.ensures in
    rw (head-fields _ _) at (puts_then c.decimal.ensures.put (rw number at c.field.ensures.put))
