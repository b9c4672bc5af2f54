use Prim.Native.Nat.{◌+◌, ◌*◌}
use Rattle.whole.specs.Table.{table}
use Rattle.whole.proofs.FillLaws.{BlocksFilled}
use Rattle.rules.specs.Calls.{wind_at}
use Rattle.step_upwind.specs.Upwind.{as_stage, face_product}
use Rattle.step_stages.proofs.row_products.Given as goal

abbrev pub invariant-loop-column : goal.invariant-loop-column
invariant-loop-column l =
    let s = l.fn.stage in
    let g = s.winds.grid.shape in
    BlocksFilled 3 (λ i. table 3 (face_product g (wind_at s.winds.wind.now) (as_stage s.phi.now) (l.fn.index * g.nx + i))) l.initial.products g.nx l.column l.products
