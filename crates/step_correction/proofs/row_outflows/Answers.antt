use Rattle.std.proofs.Common.{◌∙◌, arith}
use lib.IntN.{pos}
use mir.Syntax.{w64}
use Rattle.whole.specs.Table.{at}
use Rattle.whole.proofs.Sizes.{read_back}
use Rattle.whole.proofs.FillLaws.{filled_none, filled_next}
use Rattle.rules.specs.Correction.{donor, outflow}
use Rattle.step_correction.proofs.row_outflows.Goals as goal

pub loop-column-init : goal.loop-column-init
loop-column-init c = filled_none (omega (arith, c.requires.outflows_len))

pub loop-column-preserved : goal.loop-column-preserved
loop-column-preserved c =
    let x = c.args.fluxes.now in
    let same = c.element.ensures in
    filled_next c.loop-column.invariant (omega (arith, c.loop-column-test.true, c.loop-column.invariant.long, c.requires.outflows_len))
    (read_back w64 c.outflow.ensures tt ∙ (λ i. pos (outflow (same.grid i).shape (donor (same.grid i).shape (at x)) (at x) (same.place i))))
