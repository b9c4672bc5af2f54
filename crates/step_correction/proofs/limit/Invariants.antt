use Prim.Native.Nat.{◌+◌, ◌*◌}
use Rattle.whole.specs.Table.{table}
use Rattle.whole.proofs.FillLaws.{BlocksFilled}
use Rattle.step_correction.specs.Amounts.{limited_face}
use Rattle.step_correction.proofs.limit.Given as goal

abbrev pub invariant-loop-index : goal.invariant-loop-index
invariant-loop-index l = let g = l.grid.shape in BlocksFilled g.nx (λ j. table g.nx (λ i. limited_face g l.fluxes l.outflows l.masses (j * g.nx + i))) l.initial.report (2 * g.ny) l.index l.report
