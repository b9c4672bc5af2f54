use mathlib.Core.Path.{sym, ◌∙◌}
use native.Mathlib.Omega.{arith}
use Rattle.rules.proofs.RescalingLaws.{rescaled-cut}
use Rattle.limiter.proofs.ScaleLaws.{floor_is, floor-next_is}
use Rattle.limiter.proofs.scale.Scale.rescale.Goals as goal

pub returns-then-y-self : goal.returns-then-y-self
returns-then-y-self c =
    let a = c.args.self in
    floor-next_is _ _ _ _ _ (omega (arith, a.target_lt_sum)) (omega arith) (omega (arith, c.requires.v_bound)) a.ratio_is c.if-y-self.true ∙ sym (rescaled-cut _ _ _ a.target_lt_sum)

pub returns-else-y-self : goal.returns-else-y-self
returns-else-y-self c =
    let a = c.args.self in
    floor_is _ _ _ _ _ (omega (arith, a.target_lt_sum)) (omega arith) (omega (arith, c.requires.v_bound)) a.ratio_is c.if-y-self.false ∙ sym (rescaled-cut _ _ _ a.target_lt_sum)
