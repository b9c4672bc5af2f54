-- The step's checks: 4 and 5 by their tests, 6 and 7 as the sum of the tracer meets them.
use mathlib.Core.Path.{◌≡◌, sym, ap, ◌∙◌}
use mathlib.Core.Bool.{true}
use lib.Dec.{T, leb→le, leb}
use lib.ListN.{length}
use Rattle.whole.proofs.Cases.{both_yes}
use Rattle.rules.proofs.AnswerLaws.{passed_on}
use Rattle.rules.specs.Answers.{mapped, plain}
use Rattle.rules.specs.Field.{quadratic, admitted, faces, field_length}
use Rattle.rules.specs.Calls.{wind_sound}
use Rattle.field_layout.proofs.PlaceLaws.{is-admitted}
use Rattle.step.proofs.CheckLaws.{enough, step-4, step-5, step-refused, step-accepted}
use Rattle.step.proofs.check.Goals as goal
use Rattle.step.proofs.check.Goals.{Else-not-lent_enough, Else-not-winds_sound, Start}

-- the shape of a grid passes its test
shape_is : (c : Start) → admitted c.args.grid.shape ≡ true
shape_is c = is-admitted c.args.grid.shape c.args.grid.admitted

pub returns-then-not-lent_enough : goal.returns-then-not-lent_enough
unfolding mapped
returns-then-not-lent_enough c =
    let a = c.args in
    sym (ap plain (step-4 a.grid.shape a.tracer a.field.now a.wind.now a.report a.work (shape_is (goal.at.returns-then-not-lent_enough c).Start) (sym c.lent_enough.ensures ∙ c.if-not-lent_enough.true)))

enough-is : (c : Else-not-lent_enough) → enough c.args.grid.shape c.args.tracer c.args.field.now c.args.wind.now c.args.report c.args.work ≡ true
enough-is c = sym c.lent_enough.ensures ∙ c.if-not-lent_enough.false

pub winds_sound-requires : goal.winds_sound-requires
winds_sound-requires c =
    let a = c.args in
    let t : T (enough a.grid.shape a.tracer a.field.now a.wind.now a.report a.work) = rw (enough-is (goal.at.winds_sound-requires c).Else-not-lent_enough) tt in
    let b = both_yes (leb (field_length quadratic a.grid.shape) (length a.field.now)) _ t in
    leb→le _ _ (both_yes (leb (faces a.grid.shape) (length a.wind.now)) _ b.1).0

pub returns-then-not-winds_sound : goal.returns-then-not-winds_sound
unfolding mapped
returns-then-not-winds_sound c =
    let a = c.args in
    sym (ap plain (step-5 a.grid.shape a.tracer a.field.now a.wind.now a.report a.work (shape_is (goal.at.returns-then-not-winds_sound c).Start) (enough-is (goal.at.returns-then-not-winds_sound c).Else-not-lent_enough) (sym c.winds_sound.ensures ∙ c.if-not-winds_sound.true)))

sound-is : (c : Else-not-winds_sound) → wind_sound c.args.grid.shape c.args.wind.now ≡ true
sound-is c = sym c.winds_sound.ensures ∙ c.if-not-winds_sound.false

pub returns-in_err-sum_on : goal.returns-in_err-sum_on
unfolding mapped
returns-in_err-sum_on c =
    let a = c.args in
    passed_on c.from_residual.result _ c.from_residual.ensures.1 ∙ sym (ap plain (step-refused a.grid.shape a.tracer a.field.now a.wind.now a.report a.work _ (shape_is (goal.at.returns-in_err-sum_on c).Start) (enough-is (goal.at.returns-in_err-sum_on c).Else-not-lent_enough) (sound-is (goal.at.returns-in_err-sum_on c).Else-not-winds_sound) (sym c.in_err-sum_on.ensures)))

pub returns : goal.returns
unfolding mapped
returns c =
    let a = c.args in
    sym (ap plain (step-accepted a.grid.shape a.tracer a.field.now a.wind.now a.report a.work _ (shape_is (goal.at.returns c).Start) (enough-is (goal.at.returns c).Else-not-lent_enough) (sound-is (goal.at.returns c).Else-not-winds_sound) (sym c.in_ok-sum_on.ensures)))
