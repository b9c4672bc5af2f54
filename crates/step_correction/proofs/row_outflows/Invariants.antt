use lib.IntN.{pos}
use Prim.Native.Nat.{◌+◌, ◌*◌}
use Rattle.whole.specs.Table.{at}
use Rattle.whole.proofs.FillLaws.{Filled}
use Rattle.rules.specs.Correction.{donor, outflow}
use Rattle.step_correction.proofs.row_outflows.Given as goal

abbrev pub invariant-loop-column : goal.invariant-loop-column
invariant-loop-column l = let g = l.row.grid.shape in Filled (λ i. pos (outflow g (donor g (at l.fluxes)) (at l.fluxes) (l.row.index * g.nx + i))) l.initial.outflows g.nx l.column l.outflows
