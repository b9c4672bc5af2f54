use mathlib.Core.List.{[], ◌∷◌}
use Rattle.whole.specs.Table.{table}
use Rattle.step_tendency.proofs.Lines.lines.Goals as goal

pub returns-clause-value : goal.returns-clause-value
unfolding table
returns-clause-value c = λ i. c.line.ensures.value i ∷ c.line-2.ensures.value i ∷ c.line-3.ensures.value i ∷ []
