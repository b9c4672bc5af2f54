use lib.IntN.{pos}
use Prim.Native.Nat.{◌+◌, ◌*◌}
use Rattle.whole.specs.Table.{table, at}
use Rattle.whole.proofs.FillLaws.{BlocksFilled}
use Rattle.rules.specs.Correction.{donor, outflow}
use Rattle.step_correction.proofs.outflows.Given as goal

abbrev pub invariant-loop-index : goal.invariant-loop-index
invariant-loop-index l = let g = l.grid.shape in BlocksFilled g.nx (λ j. table g.nx (λ i. pos (outflow g (donor g (at l.fluxes)) (at l.fluxes) (j * g.nx + i)))) l.initial.outflows g.ny l.index l.outflows
