-- The reading of a total: 4 and 7, and then the stored total, of which 6 asks whether it is within the limit.
use mathlib.Core.Path.{◌≡◌, sym, ap, ◌∙◌}
use native.Mathlib.Omega.{arith}
use Rattle.rules.specs.Answers.{accepted}
use Rattle.rules.specs.Field.{quadratic, part, stored_total}
use Rattle.rules.proofs.AnswerLaws.{passed_on}
use Rattle.field_layout.proofs.PlaceLaws.{is-admitted, field_is, field-le}
use Rattle.field.proofs.CheckLaws.{there, total-refused, total-above, total-passes}
use Rattle.field.proofs.InPlaceLaws.{stored_at}
use Rattle.field.proofs.readings.total_on.Goals as goal
use Rattle.field.proofs.readings.total_on.Goals.{After-from-total}

-- what is read is the stored total
read : (c : After-from-total) → c.from-total.result ≡ stored_total quadratic (c.args.grid.shape) (part quadratic c.args.grid.shape c.args.tracer c.args.field.now)
read c = let a = c.args in c.from-total.ensures ∙ stored_at a.grid.shape a.tracer a.field.now c.total_at.result c.total_at.ensures.place

pub returns-in_err-there : goal.returns-in_err-there
returns-in_err-there c =
    let a = c.args in
    let r = c.from_residual in
    passed_on r.result _ r.ensures.1 ∙ sym (total-refused a.grid.shape a.tracer a.field.now _ (is-admitted a.grid.shape a.grid.admitted) (sym c.in_err-there.ensures))

pub total_at-requires : goal.total_at-requires
total_at-requires c = let a = c.args in (there a.grid.shape a.tracer a.field.now (sym c.in_ok-there.ensures)).tracer

pub offset_bounds-field-total_at : goal.offset_bounds-field-total_at
offset_bounds-field-total_at c = let g = c.args.grid in record { fits = omega (arith, c.total_at.ensures.room, field_is g.shape, field-le g.shape g.admitted) }

pub bounds-field-total_at : goal.bounds-field-total_at
bounds-field-total_at c = let a = c.args in omega (arith, c.total_at.ensures.room, (there a.grid.shape a.tracer a.field.now (sym c.in_ok-there.ensures)).room)

pub returns-then-total-gt-LIMIT : goal.returns-then-total-gt-LIMIT
returns-then-total-gt-LIMIT c =
    let a = c.args in
    sym (total-above a.grid.shape a.tracer a.field.now (is-admitted a.grid.shape a.grid.admitted) (sym c.in_ok-there.ensures) (omega (arith, c.if-total-gt-LIMIT.true, read (goal.at.returns-then-total-gt-LIMIT c).After-from-total)))

pub returns : goal.returns
returns c =
    let a = c.args in
    let e = read (goal.at.returns c).After-from-total in
    ap accepted e ∙ sym (total-passes a.grid.shape a.tracer a.field.now (is-admitted a.grid.shape a.grid.admitted) (sym c.in_ok-there.ensures) (omega (arith, c.if-total-gt-LIMIT.false, e)))
