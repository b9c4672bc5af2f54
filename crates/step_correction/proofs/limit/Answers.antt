-- The face report: each turn's row is written from its first face on, and all rows make the list.
use mathlib.Core.Path.{ap, ◌∙◌}
use Prim.Native.Nat.{◌*◌}
use native.Mathlib.Omega.{arith}
use Rattle.whole.specs.Table.{table, overwrite}
use Rattle.whole.proofs.TableLaws.{length-table}
use Rattle.whole.proofs.FillLaws.{blocks-none, blocks-next, blocks-all}
use Rattle.rules.proofs.ShapeLaws.{row_room}
use Rattle.step_correction.specs.Amounts.{limited_face}
use Rattle.step_grid.proofs.RowLaws.{face-rows, rows-table}
use Rattle.step_correction.proofs.limit.Goals as goal

pub loop-index-init : goal.loop-index-init
loop-index-init c = blocks-none (omega (arith, c.requires.shape_in_bounds, face-rows c.args.grid.shape))

pub slice_bounds-row_limit-end : goal.slice_bounds-row_limit-end
slice_bounds-row_limit-end c =
    let g = c.args.grid.shape in
    omega (arith, c.start-start.ensures, row_room g.nx (2 * g.ny) c.loop-index.index c.loop-index-test.true, c.loop-index.invariant.long, c.loop-index.invariant.room, face-rows g)

pub loop-index-preserved : goal.loop-index-preserved
loop-index-preserved c =
    let nx = c.args.grid.shape.nx in
    blocks-next (λ j. length-table nx _) c.loop-index.invariant c.loop-index-test.true (omega (arith, c.start-start.ensures)) (omega arith) c.row_limit.ensures

pub returns : goal.returns
returns c =
    let a = c.args in
    let g = a.grid.shape in
    let f = limited_face g a.fluxes.now a.outflows.now a.masses.now in
    blocks-all c.loop-index.invariant (omega (arith, c.loop-index-test.false)) (λ j. length-table g.nx _)
    ∙ ap (λ rows. overwrite 0 rows a.report.now) (rows-table (2 * g.ny) g.nx f a.grid.admitted.nx-above ∙ ap (λ n. table n f) (face-rows g))
