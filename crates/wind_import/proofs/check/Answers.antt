use borrow.Author.Rules.{rules}
use mathlib.Core.Path.{subst, ◌∙◌}
use native.Mathlib.Omega.{arith}
use Rattle.rules.proofs.AnswerLaws.{passed_on}
use Rattle.wind_records.specs.Records.{winds_at}
use Rattle.wind_import.proofs.ImportLaws.{Walked, walked_none, walked_more, walked-refused, bytes_left, none_left}
use Rattle.wind_import.proofs.check.Goals as goal
use Rattle.wind_import.proofs.check.Goals.{After-loop}

pub loop-init : goal.loop-init
loop-init c = walked_none _

pub loop-preserved : goal.loop-preserved
loop-preserved c = walked_more _ _ _ c.loop.invariant (winds_at c.loop.left.now 0) c.in_ok-rest.field-0-0 (search rules) _ (search rules)

pub returns-in_err-rest : goal.returns-in_err-rest
returns-in_err-rest c =
    passed_on c.from_residual.result _ c.from_residual.ensures.1 ∙ walked-refused _ _ _ c.loop.invariant (winds_at c.loop.left.now 0) _ _ c.loop-test.true (search rules)

-- after the last record
at-end : (c : After-loop) → Walked c.args.records.now c.args.n c.loop.left.now
at-end c = subst (λ k. Walked c.args.records.now k c.loop.left.now) (omega arith) c.loop.invariant

pub returns-then-is_empty : goal.returns-then-is_empty
returns-then-is_empty c = none_left _ _ _ (at-end (goal.at.returns-then-is_empty c).After-loop) (search rules)

pub returns-else-is_empty : goal.returns-else-is_empty
returns-else-is_empty c = bytes_left _ _ _ (at-end (goal.at.returns-else-is_empty c).After-loop) (search rules)
