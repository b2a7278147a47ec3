-- The loop's invariant: the line is begun, up to row i.
use Rattle.conditions.specs.Places.{places}
use Rattle.conditions.specs.Text.{number_at}
use Rattle.polyvalues.proofs.Texts.{Begun}
use Rattle.polyvalues.proofs.text.Line.polyvalue.Given as goal

abbrev pub invariant-loop-i : goal.invariant-loop-i
invariant-loop-i l = Begun places (number_at l.numbers) l.q l.initial.self l.self l.i
