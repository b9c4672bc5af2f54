-- The checks of a writing: each test is a check of the definition, in its order.
use mathlib.Core.Path.{◌≡◌, sym, ap, ◌∙◌}
use mathlib.Core.Bool.{true}
use Rattle.rules.specs.Answers.{accepted}
use Rattle.rules.specs.Field.{quadratic, admitted}
use Rattle.rules.specs.FieldFile.{file_length}
use Rattle.rules.specs.Calls.{wind_sound}
use Rattle.field_layout.proofs.PlaceLaws.{is-admitted}
use Rattle.file_writing.proofs.WritingLaws.{of-layout}
use Rattle.file_writing.proofs.WriteChecks.{enough, write-4, write-5, write-6, write-passed}
use Rattle.file_writing.proofs.checks.check.Goals as goal
use Rattle.file_writing.proofs.checks.check.Goals.{Else-not-lent_enough, Else-not-winds_sound, Start}

-- the shape of a grid passes its test
shape_is : (c : Start) → admitted c.args.grid.shape ≡ true
shape_is c = is-admitted c.args.grid.shape c.args.grid.admitted

pub returns-then-not-lent_enough : goal.returns-then-not-lent_enough
returns-then-not-lent_enough c =
    let a = c.args in
    sym (write-4 a.grid.shape a.field.now a.wind.now a.file.now (shape_is (goal.at.returns-then-not-lent_enough c).Start) (sym c.lent_enough.ensures ∙ c.if-not-lent_enough.true))

enough-is : (c : Else-not-lent_enough) → enough c.args.grid.shape c.args.field.now c.args.wind.now c.args.file.now ≡ true
enough-is c = sym c.lent_enough.ensures ∙ c.if-not-lent_enough.false

pub returns-then-not-winds_sound : goal.returns-then-not-winds_sound
returns-then-not-winds_sound c =
    let a = c.args in
    sym (write-5 a.grid.shape a.field.now a.wind.now a.file.now (shape_is (goal.at.returns-then-not-winds_sound c).Start) (enough-is (goal.at.returns-then-not-winds_sound c).Else-not-lent_enough) (sym c.winds_sound.ensures ∙ c.if-not-winds_sound.true))

winds-are : (c : Else-not-winds_sound) → wind_sound c.args.grid.shape c.args.wind.now ≡ true
winds-are c = sym c.winds_sound.ensures ∙ c.if-not-winds_sound.false

pub returns-then-not-tracers_sound : goal.returns-then-not-tracers_sound
returns-then-not-tracers_sound c =
    let a = c.args in
    sym (write-6 a.grid.shape a.field.now a.wind.now a.file.now (shape_is (goal.at.returns-then-not-tracers_sound c).Start) (enough-is (goal.at.returns-then-not-tracers_sound c).Else-not-lent_enough) (winds-are (goal.at.returns-then-not-tracers_sound c).Else-not-winds_sound) (sym c.tracers_sound.ensures ∙ c.if-not-tracers_sound.true))

pub returns : goal.returns
returns c =
    let a = c.args in
    ap accepted (of-layout (file_length quadratic) c.file_length.ensures c.layout.ensures.same_grid c.layout.ensures.mark)
    ∙ sym (write-passed a.grid.shape a.field.now a.wind.now a.file.now (shape_is (goal.at.returns c).Start) (enough-is (goal.at.returns c).Else-not-lent_enough) (winds-are (goal.at.returns c).Else-not-winds_sound) (sym c.tracers_sound.ensures ∙ c.if-not-tracers_sound.false))
