use Rattle.whole.specs.Table.{table}
use Rattle.whole.proofs.FillLaws.{BlocksFilled}
use Rattle.rules.specs.Field.{quadratic, elements}
use Rattle.rules.specs.Stages.{stage0}
use Rattle.step_stages.proofs.start.Given as goal

abbrev pub invariant-loop-index : goal.invariant-loop-index
invariant-loop-index l = BlocksFilled 9 (λ e. table 9 (stage0 quadratic l.part e)) l.initial.stage (elements l.fn.grid.shape) l.index l.stage
