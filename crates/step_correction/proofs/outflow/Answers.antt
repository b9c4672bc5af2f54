-- An element's outflow: four fluxes are read at its sides, and the machine's sum of their parts (`added`) is the sum over all faces
-- (`outflow-local`).
use mathlib.Core.Path.{sym, ap, ◌∙◌}
use Prim.Native.Nat.{◌+◌}
use lib.IntN.{pos}
use Rattle.whole.specs.Table.{at}
use Rattle.whole.specs.Parts.{positive, negative}
use Rattle.whole.proofs.Sizes.{are-eq}
use Rattle.rules.proofs.CorrectionLaws.{outflow-local}
use Rattle.step_correction.proofs.Laws.{side-read, added}
use Rattle.step_correction.proofs.outflow.Goals as goal

pub returns : goal.returns
returns c =
    let x = c.args.element in
    let h = x.grid.admitted in
    let read = side-read c.args.fluxes.now x.grid.shape x.index c.requires.all_within tt c.sides.ensures.faces in
    are-eq (added _ _ _ _ _ _ _ _ c.positive.ensures c.negative.ensures c.positive-2.ensures c.negative-2.ensures)
    ((λ i. pos (positive (read 1 i) + negative (read 0 i) + (positive (read 3 i) + negative (read 2 i)))) ∙ ap pos (sym (outflow-local x.grid.shape h.nx-above h.ny-above (at c.args.fluxes.now) x.index x.inside)))
