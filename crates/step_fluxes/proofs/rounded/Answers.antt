use mathlib.Core.Path.{◌∙◌}
use Rattle.whole.proofs.Sizes.{sizes-parity, exacts-parity, fits, exact}
use Rattle.step_fluxes.proofs.Laws.{rounded-is, rounded-within}
use Rattle.step_fluxes.proofs.rounded.Goals as goal

pub overflow_mul-result : goal.overflow_mul-result
overflow_mul-result c = let h = c.requires in fits (search sizes-parity depth 20) tt

pub overflow_add-result : goal.overflow_add-result
overflow_add-result c = let h = c.requires in fits (search sizes-parity depth 20) tt

pub overflow_add-result-2 : goal.overflow_add-result-2
overflow_add-result-2 c = let h = c.requires in fits (search sizes-parity depth 20) tt

pub returns : goal.returns
returns c = let h = c.requires in record { same = exact (search exacts-parity depth 20) tt ∙ rounded-is c.args.amount; bound = rounded-within c.args.amount h }
