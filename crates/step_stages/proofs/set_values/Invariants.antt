use Rattle.whole.specs.Table.{table}
use Rattle.whole.proofs.FillLaws.{BlocksFilled}
use Rattle.rules.specs.Field.{quadratic, elements}
use Rattle.rules.specs.Stages.{stage0}
use Rattle.step_upwind.specs.Upwind.{as_stage}
use Rattle.step_stages.specs.Passes.{from_stage, new_value}
use Rattle.step_stages.proofs.set_values.Given as goal

abbrev pub invariant-loop-index : goal.invariant-loop-index
invariant-loop-index l = BlocksFilled 9 (λ e. table 9 (λ k. new_value (from_stage l.fn.pass) (stage0 quadratic l.part e k) (as_stage l.sums e k))) l.initial.values (elements l.fn.grid.shape) l.index l.values
