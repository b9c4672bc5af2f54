use Rattle.std.proofs.Common.{refl, ◌∙◌, arith, ◌*◌}
use native.Mathlib.Nat.{add-sub_cancel_left}
use Rattle.whole.specs.Table.{table}
use Rattle.whole.proofs.FillLaws.{blocks-none, blocks-next, blocks-whole}
use Rattle.whole.proofs.OverwriteLaws.{part_room}
use Rattle.whole.proofs.TableLaws.{length-table, length-blocks}
use Rattle.rules.specs.Field.{faces}
use Rattle.rules.specs.Calls.{wind_at}
use Rattle.step_grid.proofs.RowLaws.{face-rows, rows-blocks}
use Rattle.step_upwind.specs.Upwind.{as_stage, face_product}
use Rattle.step_stages.proofs.products.Goals as goal

pub loop-index-init : goal.loop-index-init
loop-index-init c = blocks-none (omega (arith, c.requires, face-rows c.args.stage.winds.grid.shape))

pub slice_bounds-row_products-end : goal.slice_bounds-row_products-end
slice_bounds-row_products-end c = let g = c.args.stage.winds.grid.shape in omega (arith, part_room (g.nx * 3) c.loop-index-test.true, c.requires, face-rows g, c.loop-index.auto.products)

pub loop-index-preserved : goal.loop-index-preserved
loop-index-preserved c =
    let g = c.args.stage.winds.grid.shape in
    blocks-next (λ j. length-blocks 3 _ (λ i. length-table 3 _) g.nx) c.loop-index.invariant (omega arith) refl (add-sub_cancel_left (c.loop-index.index * (g.nx * 3)) (g.nx * 3)) c.row_products.ensures

pub returns : goal.returns
returns c =
    let s = c.args.stage in
    let g = s.winds.grid.shape in
    blocks-whole c.loop-index.invariant (omega arith) (omega (arith, c.requires, face-rows g)) ∙ rows-blocks g.nx (2 * g.ny) (faces g) (face-rows g) (λ f. table 3 (face_product g (wind_at s.winds.wind.now) (as_stage s.phi.now) f))
