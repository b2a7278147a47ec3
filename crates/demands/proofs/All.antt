-- The customer's demands, all of them.
use Rattle.demands.specs.Demands.{Demands}
use Rattle.demands.proofs.Demand1.{demand-1, one-result}
use Rattle.demands.proofs.Demand2.{demand-2}
use Rattle.demands.proofs.Demand3.{demand-3}
use Rattle.demands.proofs.Sheets.{on-sheets, on-program}
use Rattle.demands.proofs.Examples.{marked-examples}

pub demands : Demands
demands = record { one = demand-1; one_result = one-result; two = demand-2; three = demand-3; on_sheets = on-sheets; on_program = on-program; examples = marked-examples }
