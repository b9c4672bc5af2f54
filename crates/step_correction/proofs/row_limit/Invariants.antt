use Prim.Native.Nat.{◌+◌, ◌*◌}
use Rattle.whole.proofs.FillLaws.{Filled}
use Rattle.step_correction.specs.Amounts.{limited_face}
use Rattle.step_correction.proofs.row_limit.Given as goal

abbrev pub invariant-loop-column : goal.invariant-loop-column
invariant-loop-column l = let g = l.row.grid.shape in Filled (λ i. limited_face g l.fluxes l.outflows l.masses (l.row.index * g.nx + i)) l.initial.report g.nx l.column l.report
