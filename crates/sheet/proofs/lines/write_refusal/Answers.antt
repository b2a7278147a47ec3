-- The word, the two numbers and the line feed.
use mathlib.Core.Path.{◌∙◌}
use native.Mathlib.Omega.{arith}
use Rattle.sheet.proofs.Writing.{refusal-line, line-given, puts_then}
use Rattle.sheet.proofs.lines.write_refusal.Goals as goal

pub returns : goal.returns
returns c =
    let number = rw (c.from.ensures ∙ c.answer_number.ensures) at c.field.ensures.put in
    let all = rw (refusal-line _ _) at (puts_then (puts_then (puts_then c.bytes.ensures number) c.field-2.ensures.put) c.byte.ensures) in
    let both = line-given _ _ c.if-buf-lt-LONGEST_LINE.false all.put (omega (arith, c.if-buf-lt-LONGEST_LINE.false, c.bytes.ensures.put.ends, c.field.ensures.upper_bound, c.field-2.ensures.upper_bound, c.byte.ensures.put.ends)) in
    record { value = both.0; buf_after = grind (arith, both.1, all.lent) }
