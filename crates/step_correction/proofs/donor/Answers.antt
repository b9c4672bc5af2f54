use mathlib.Core.Path.{sym, ap, ◌∙◌}
use mathlib.Core.Bool.{cond}
use lib.IntN.{pos}
use lib.Signed.{le_z}
use mir.Facts.{to_z-of_z}
use Rattle.rules.specs.Grid.{behind, ahead}
use Rattle.step_upwind.proofs.Laws.{sign-is}
use Rattle.step_correction.proofs.donor.Goals as goal

pub returns-then-flux-ge0 : goal.returns-then-flux-ge0
returns-then-flux-ge0 c =
    let x = c.args.face in
    c.ends-behind.ensures.behind ∙ sym (ap (λ b. cond b (behind x.grid.shape x.index) (ahead x.grid.shape x.index)) (sym (sign-is c.args.flux) ∙ ap (le_z (pos 0)) (sym (to_z-of_z c.ranges.flux)) ∙ c.if-flux-ge0.true))

pub returns-else-flux-ge0 : goal.returns-else-flux-ge0
returns-else-flux-ge0 c =
    let x = c.args.face in
    c.ends-behind.ensures.ahead ∙ sym (ap (λ b. cond b (behind x.grid.shape x.index) (ahead x.grid.shape x.index)) (sym (sign-is c.args.flux) ∙ ap (le_z (pos 0)) (sym (to_z-of_z c.ranges.flux)) ∙ c.if-flux-ge0.false))
