use Prim.Native.Nat.{◌+◌, ◌*◌}
use Rattle.whole.specs.Table.{table, blocks}
use Rattle.whole.proofs.FillLaws.{BlocksFilled}
use Rattle.rules.specs.Calls.{wind_at}
use Rattle.step_upwind.specs.Upwind.{as_stage, face_product}
use Rattle.step_stages.proofs.products.Given as goal

abbrev pub invariant-loop-index : goal.invariant-loop-index
invariant-loop-index l =
    let s = l.fn.stage in
    let g = s.winds.grid.shape in
    BlocksFilled (g.nx * 3) (λ j. blocks g.nx (λ i. table 3 (face_product g (wind_at s.winds.wind.now) (as_stage s.phi.now) (j * g.nx + i)))) l.initial.products (2 * g.ny) l.index l.products
