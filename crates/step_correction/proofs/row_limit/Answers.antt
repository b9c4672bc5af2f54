use Rattle.std.proofs.Common.{◌∙◌, arith}
use Rattle.whole.proofs.Sizes.{exacts, exact}
use Rattle.whole.proofs.FillLaws.{filled_none, filled_next}
use Rattle.step_correction.specs.Amounts.{limited_face}
use Rattle.step_correction.proofs.row_limit.Goals as goal

pub loop-column-init : goal.loop-column-init
loop-column-init c = filled_none (omega (arith, c.requires.report_len))

pub loop-column-preserved : goal.loop-column-preserved
loop-column-preserved c =
    let a = c.args in
    let same = c.face.ensures in
    let h = c.limited.ensures in
    filled_next c.loop-column.invariant (omega (arith, c.loop-column-test.true, c.loop-column.invariant.long, c.requires.report_len))
    (exact (search exacts depth 20) tt ∙ (λ i. limited_face (same.grid i).shape a.fluxes.now a.outflows.now a.masses.now (same.place i)))
