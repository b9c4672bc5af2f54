-- All rows' sums: a row's numbers are as they were before its turn, and are those of the definition then.
use mathlib.Core.Path.{refl, ◌∙◌}
use Prim.Native.Nat.{ℕ, ◌*◌}
use native.Mathlib.Nat.{add-sub_cancel_left}
use native.Mathlib.Omega.{arith}
use mir.Syntax.{w64}
use Rattle.whole.proofs.Sizes.{read_back}
use Rattle.whole.specs.Table.{table}
use Rattle.whole.proofs.TableLaws.{length-table, length-blocks, blocks-table}
use Rattle.whole.proofs.FillLaws.{blocks-none, blocks-next, blocks-rest, blocks-whole}
use Rattle.rules.specs.Field.{elements}
use Rattle.rules.specs.Calls.{wind_at}
use Rattle.step_grid.proofs.RowLaws.{element-rows, rows-blocks}
use Rattle.step_stages.specs.Passes.{from_stage, new_sums}
use Rattle.step_stages.proofs.Laws.{row-sums}
use Rattle.step_stages.proofs.add_tendencies.Goals as goal

pub loop-index-init : goal.loop-index-init
loop-index-init c = blocks-none (omega (arith, c.requires.sums_len, element-rows c.args.from.stage.winds.grid.shape))

pub loop-index-preserved : goal.loop-index-preserved
loop-index-preserved c =
    let a = c.args in
    let g = a.from.stage.winds.grid.shape in
    let j = c.loop-index.index in
    let long = λ (j : ℕ). length-blocks 9 _ (λ i. length-table 9 _) g.nx in
    let sub = add-sub_cancel_left (j * (g.nx * 9)) (g.nx * 9) in
    blocks-next long c.loop-index.invariant (omega arith) refl sub (c.add_row.ensures ∙ row-sums g (wind_at a.from.stage.winds.wind.now) (from_stage a.pass) _ c.loop-index.sums a.sums.now a.from.stage.phi.now j _ (read_back w64 c.factor-times.ensures tt) (blocks-rest long c.loop-index.invariant) sub)

pub returns : goal.returns
returns c =
    let a = c.args in
    let s = a.from.stage in
    let g = s.winds.grid.shape in
    let f = new_sums g (wind_at s.winds.wind.now) (from_stage a.pass) a.sums.now s.phi.now in
    blocks-whole c.loop-index.invariant (omega arith) (omega (arith, c.requires.sums_len, element-rows g)) ∙ rows-blocks g.nx g.ny (elements g) (element-rows g) (λ e. table 9 (f e)) ∙ blocks-table 9 f (omega arith) (elements g)
