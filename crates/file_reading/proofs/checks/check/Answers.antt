-- The checks 3 to 6 of a file: each test is the definition's.
use mathlib.Core.Path.{◌≡◌, sym, ap, subst, ◌∙◌}
use mathlib.Core.Bool.{true}
use Prim.Native.Nat.{◌≤◌}
use native.Mathlib.Omega.{arith}
use lib.ListN.{length}
use Rattle.std.specs.Prelude.{is_some, IfSome}
use Rattle.rules.specs.Answers.{mapped}
use Rattle.rules.specs.Field.{quadratic, faces, field_length}
use Rattle.rules.specs.Calls.{wind_sound}
use Rattle.rules.specs.FieldFile.{file_length, offsets_right, file_wind, file_field, field_sound}
use Rattle.file_sections.specs.Numbers.{parts_of_sections}
use Rattle.file_reading.specs.Reading.{AreTotals}
use Rattle.file_reading.proofs.ReadLaws.{winds-tested}
use Rattle.file_reading.proofs.CheckLaws.{check-3, check-4-field, check-4-wind, check-5, check-6, check_done, right-length}
use Rattle.file_reading.proofs.checks.check.Goals as goal
use Rattle.file_reading.proofs.checks.check.Goals.{After-tracer_totals, After-winds_sound, Else-field-field_length, Else-not-offsets_right, Else-wind-faces}

pub returns-then-not-offsets_right-clause-reply : goal.returns-then-not-offsets_right-clause-reply
unfolding mapped
returns-then-not-offsets_right-clause-reply c =
    let a = c.args in
    check-3 a.layout.mark a.layout.grid.shape a.file.now a.field a.wind (sym c.offsets_right.ensures ∙ c.if-not-offsets_right.true)

-- what each passed test says
right : (c : Else-not-offsets_right) → offsets_right quadratic c.args.layout.mark c.args.layout.grid.shape c.args.file.now ≡ true
right c = sym c.offsets_right.ensures ∙ c.if-not-offsets_right.false

long : (c : Else-not-offsets_right) → length c.args.file.now ≡ file_length quadratic c.args.layout.mark c.args.layout.grid.shape
long c = let a = c.args in right-length a.layout.mark a.layout.grid.shape a.file.now a.field a.wind (rw (right c) tt)

pub returns-then-field-field_length-clause-reply : goal.returns-then-field-field_length-clause-reply
unfolding mapped
returns-then-field-field_length-clause-reply c =
    let a = c.args in
    check-4-field a.layout.mark a.layout.grid.shape a.file.now a.field a.wind (right (goal.at.returns-then-field-field_length-clause-reply c).Else-not-offsets_right) (omega (arith, c.field_length.ensures, c.if-field-field_length.true))

fields : (c : Else-field-field_length) → field_length quadratic c.args.layout.grid.shape ≤ c.args.field
fields c = omega (arith, c.field_length.ensures, c.if-field-field_length.false)

pub returns-then-wind-faces-clause-reply : goal.returns-then-wind-faces-clause-reply
unfolding mapped
returns-then-wind-faces-clause-reply c =
    let a = c.args in
    check-4-wind a.layout.mark a.layout.grid.shape a.file.now a.field a.wind (right (goal.at.returns-then-wind-faces-clause-reply c).Else-not-offsets_right) (fields (goal.at.returns-then-wind-faces-clause-reply c).Else-field-field_length) (omega (arith, c.faces.ensures, c.if-wind-faces.true))

winds : (c : Else-wind-faces) → faces c.args.layout.grid.shape ≤ c.args.wind
winds c = omega (arith, c.faces.ensures, c.if-wind-faces.false)

pub sections-requires : goal.sections-requires
sections-requires c = long (goal.at.sections-requires c).Else-not-offsets_right

-- the tests of the sections are of the wind and the field that the file holds
winds-tests : (c : After-winds_sound) → c.winds_sound.result ≡ wind_sound c.args.layout.grid.shape (file_wind c.args.layout.grid.shape c.args.file.now)
winds-tests c =
    let g = c.args.layout.grid.shape in
    c.winds_sound.ensures ∙ winds-tested g _ c.sections.ensures.winds_length ∙ ap (wind_sound g) c.sections.ensures.winds

tracers-tests : (c : After-tracer_totals) → is_some c.tracer_totals.result ≡ field_sound quadratic c.args.layout.grid.shape (file_field quadratic c.args.layout.mark c.args.layout.grid.shape c.args.file.now)
tracers-tests c = c.tracer_totals.ensures.sound ∙ ap (field_sound quadratic c.args.layout.grid.shape) c.sections.ensures.tracers

pub returns-then-not-winds_sound-clause-reply : goal.returns-then-not-winds_sound-clause-reply
unfolding mapped
returns-then-not-winds_sound-clause-reply c =
    let a = c.args in
    let p = goal.at.returns-then-not-winds_sound-clause-reply c in
    check-5 a.layout.mark a.layout.grid.shape a.file.now a.field a.wind (right p.Else-not-offsets_right) (fields p.Else-field-field_length) (winds p.Else-wind-faces) (sym (winds-tests p.After-winds_sound) ∙ c.if-not-winds_sound.true)

pub returns-in_default-clause-reply : goal.returns-in_default-clause-reply
unfolding mapped
returns-in_default-clause-reply c =
    let a = c.args in
    let p = goal.at.returns-in_default-clause-reply c in
    check-6 a.layout.mark a.layout.grid.shape a.file.now a.field a.wind (right p.Else-not-offsets_right) (fields p.Else-field-field_length) (winds p.Else-wind-faces) (sym (winds-tests p.After-winds_sound) ∙ c.if-not-winds_sound.false) (sym (tracers-tests p.After-tracer_totals) ∙ ap is_some c.in_default.is)

pub returns-clause-reply : goal.returns-clause-reply
unfolding mapped
returns-clause-reply c =
    let a = c.args in
    let p = goal.at.returns-clause-reply c in
    check_done a.layout.mark a.layout.grid.shape a.file.now a.field a.wind (right p.Else-not-offsets_right) (fields p.Else-field-field_length) (winds p.Else-wind-faces) (sym (winds-tests p.After-winds_sound) ∙ c.if-not-winds_sound.false) (sym (tracers-tests p.After-tracer_totals) ∙ ap is_some c.in-Some.is)

pub returns-clause-totals : goal.returns-clause-totals
returns-clause-totals c =
    let g = c.args.layout.grid.shape in
    subst (λ f. AreTotals g f c.in-Some.totals) c.sections.ensures.tracers (subst (λ o. IfSome o (λ t. AreTotals g (parts_of_sections c.args.layout.mark g c.sections.result.1.now) t)) c.in-Some.is c.tracer_totals.ensures.totals)
