use mathlib.Core.Path.{sym, ap, ◌∙◌}
use mathlib.Core.Bool.{cond}
use Rattle.rules.specs.Answers.{accepted, refused}
use Rattle.wind_records.proofs.WindsLaws.{imported}
use Rattle.wind_records.proofs.first_winds.Goals as goal

pub returns-then-in_range-clause-winds : goal.returns-then-in_range-clause-winds
returns-then-in_range-clause-winds c =
    ap (λ b. cond b (accepted c.winds_of-winds.result) (refused 5)) (sym c.if-in_range.true ∙ c.in_range.ensures) ∙ imported _ 0 c.in_ok-record.record _ c.in_ok-record.ensures.record c.winds_of-winds.ensures

pub returns-else-in_range-clause-winds : goal.returns-else-in_range-clause-winds
returns-else-in_range-clause-winds c =
    ap (λ b. cond b (accepted c.winds_of-winds.result) (refused 5)) (sym c.if-in_range.false ∙ c.in_range.ensures) ∙ imported _ 0 c.in_ok-record.record _ c.in_ok-record.ensures.record c.winds_of-winds.ensures
