-- The ten marked examples, each by computation where it is stated, and the lines of two of them.
use Rattle.conditions.specs.Example.{example-10}
use Rattle.book.proofs.Laws.Examples.{example-1, example-2, example-3, example-4, example-5, example-6, example-7, example-8, example-9}
use Rattle.demands.specs.Demands.{MarkedExamples}
use Rattle.demands.proofs.Lines.{lines}

pub marked-examples : MarkedExamples
marked-examples = (example-1, example-2, example-3, example-4, example-5, example-6, example-7, example-8, example-9, example-10, lines)
