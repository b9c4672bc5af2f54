-- The outflows of all elements: each turn's row is written from its first element on, and all rows make the list.
use mathlib.Core.Path.{sym, ap, ◌∙◌}
use Prim.Native.Nat.{ℕ}
use native.Mathlib.Omega.{arith}
use lib.IntN.{pos}
use Rattle.whole.specs.Table.{table, at}
use Rattle.whole.proofs.TableLaws.{length-table}
use Rattle.whole.proofs.FillLaws.{blocks-none, blocks-next, blocks-whole}
use Rattle.rules.specs.Correction.{donor, outflow}
use Rattle.step_grid.proofs.RowLaws.{element-rows, rows-table}
use Rattle.step_correction.proofs.outflows.Goals as goal

pub loop-index-init : goal.loop-index-init
loop-index-init c = blocks-none (omega (arith, c.requires.outflows_len, element-rows c.args.grid.shape))

pub loop-index-preserved : goal.loop-index-preserved
loop-index-preserved c =
    let nx = c.args.grid.shape.nx in
    blocks-next (λ j. length-table nx _) c.loop-index.invariant c.loop-index-test.true (omega (arith, c.start-start.ensures)) (omega arith) c.row_outflows.ensures

pub returns : goal.returns
returns c =
    let g = c.args.grid.shape in
    let x = at c.args.fluxes.now in
    let f = λ (e : ℕ). pos (outflow g (donor g x) x e) in
    blocks-whole c.loop-index.invariant (omega (arith, c.loop-index-test.false)) (c.requires.outflows_len ∙ sym (element-rows g))
    ∙ rows-table g.ny g.nx f c.args.grid.admitted.nx-above ∙ ap (λ n. table n f) (element-rows g)
