use mathlib.Core.Path.{◌∙◌}
use native.Mathlib.Omega.{arith}
use Rattle.rules.specs.Field.{quadratic}
use Rattle.rules.specs.Limiter.{closed_unlevelled}
use Rattle.limiter.proofs.Laws.{cut_sum, weighted_is, closed_sum-le, closed_numbers}
use Rattle.limiter.proofs.Raised.close.Goals as goal

pub weigh-p-requires : goal.weigh-p-requires
weigh-p-requires c = let a = c.args.self in omega (arith, weighted_is _ c.values-values.ensures.value, cut_sum a.closing.psi.now a.shift a.closing.all_within a.small)

pub put-requires-clause-sum_le : goal.put-requires-clause-sum_le
put-requires-clause-sum_le c = closed_sum-le _ _ c.values-values.ensures.value c.weigh-p.ensures c.rescaled.ensures

pub clipped-requires : goal.clipped-requires
clipped-requires c = c.weigh-p.ensures ∙ weighted_is _ c.values-values.ensures.value

pub returns-clause-numbers : goal.returns-clause-numbers
unfolding closed_unlevelled quadratic
returns-clause-numbers c = c.put.ensures ∙ closed_numbers _ _ c.values-values.ensures.value c.weigh-p.ensures c.rescaled.ensures

pub returns-clause-clipped : goal.returns-clause-clipped
unfolding closed_unlevelled
returns-clause-clipped c = c.clipped.ensures.value
