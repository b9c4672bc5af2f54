use Rattle.whole.proofs.Sizes.{sizes, exacts, fits, within, exact}
use Rattle.step_tendency.specs.Line.{place_sums}
use Rattle.step_tendency.proofs.Laws.{three-same, three-within}
use Rattle.step_tendency.proofs.place_sums.Goals as goal

pub overflow_add-result : goal.overflow_add-result
overflow_add-result c = let h = c.requires in fits (search sizes depth 20) tt

pub overflow_add-result-2 : goal.overflow_add-result-2
overflow_add-result-2 c = let h = c.requires in fits (search sizes depth 20) tt

pub returns-clause-value : goal.returns-clause-value
unfolding place_sums
returns-clause-value c = let h = c.requires in three-same (exact (search exacts depth 20) tt) (exact (search exacts depth 20) tt) (exact (search exacts depth 20) tt)

pub returns-clause-small : goal.returns-clause-small
returns-clause-small c = let h = c.requires in three-within _ _ _ (within (search sizes depth 20) tt) (within (search sizes depth 20) tt) (within (search sizes depth 20) tt)
