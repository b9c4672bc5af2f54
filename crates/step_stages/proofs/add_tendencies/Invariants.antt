use Prim.Native.Nat.{◌+◌, ◌*◌}
use Rattle.whole.specs.Table.{table, blocks}
use Rattle.whole.proofs.FillLaws.{BlocksFilled}
use Rattle.rules.specs.Calls.{wind_at}
use Rattle.step_stages.specs.Passes.{from_stage, new_sums}
use Rattle.step_stages.proofs.add_tendencies.Given as goal

abbrev pub invariant-loop-index : goal.invariant-loop-index
invariant-loop-index l =
    let s = l.fn.from.stage in
    let g = s.winds.grid.shape in
    BlocksFilled (g.nx * 9) (λ j. blocks g.nx (λ i. table 9 (new_sums g (wind_at s.winds.wind.now) (from_stage l.fn.pass) l.initial.sums s.phi.now (j * g.nx + i)))) l.initial.sums g.ny l.index l.sums
