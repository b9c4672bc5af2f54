-- The reading of a mass by shape is that on its grid, or refusal 2; what is read of the stored total beside it is not answered.
use mathlib.Core.Path.{sym, ap, ◌∙◌}
use Rattle.rules.specs.Field.{quadratic}
use Rattle.rules.specs.Calls.{mass_reading}
use Rattle.rules.proofs.AnswerLaws.{passed_on}
use Rattle.field_layout.proofs.GridLaws.{refused-2}
use Rattle.field.proofs.CheckLaws.{mass-bad-shape, mass-refused, mass-passes}
use Rattle.field.proofs.readings.mass.Goals as goal

pub returns-in_err-grid : goal.returns-in_err-grid
returns-in_err-grid c = let a = c.args in refused-2 a.shape c.from_residual.result _ c.from_residual.ensures.1 c.in_err-grid.ensures ∙ sym (mass-bad-shape a.shape a.tracer a.i a.j a.field.now c.in_err-grid.ensures.0)

pub returns-in_err-mass_and_total : goal.returns-in_err-mass_and_total
returns-in_err-mass_and_total c =
    let a = c.args in
    let r = c.from_residual-in_err-mass_and_total in
    passed_on r.result _ r.ensures.1 ∙ sym (mass-refused c.in_ok-grid.grid.shape a.tracer a.i a.j a.field.now _ (sym c.in_err-mass_and_total.ensures))
    ∙ ap (λ g. mass_reading quadratic g a.tracer a.i a.j a.field.now) c.in_ok-grid.ensures.1

pub returns : goal.returns
returns c =
    let a = c.args in
    sym (mass-passes c.in_ok-grid.grid.shape a.tracer a.i a.j a.field.now _ (sym c.in_ok-mass_and_total.ensures))
    ∙ ap (λ g. mass_reading quadratic g a.tracer a.i a.j a.field.now) c.in_ok-grid.ensures.1
