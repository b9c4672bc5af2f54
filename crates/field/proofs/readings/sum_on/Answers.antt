-- The reading of a sum: 4 and 7, and then the sum of the lent part, which makes 6 and the number.
use mathlib.Core.Path.{◌≡◌, refl, sym, ap, ◌∙◌}
use Prim.Native.Nat.{◌≤◌, ◌+◌, ◌-◌}
use native.Mathlib.Omega.{arith}
use native.Mathlib.Nat.{add-sub_cancel_left}
use lib.ListN.{length, take, drop}
use Rattle.rules.specs.Field.{quadratic, part}
use Rattle.rules.proofs.AnswerLaws.{passed_on}
use Rattle.rules.proofs.PartLaws.{length-part}
use Rattle.field_search.specs.Search.{compared}
use Rattle.field_layout.proofs.PlaceLaws.{is-admitted, field_is, field-le, tracer-room}
use Rattle.field.proofs.CheckLaws.{there, sum-refused, sum-there}
use Rattle.field.proofs.readings.sum_on.Goals as goal
use Rattle.field.proofs.readings.sum_on.Goals.{After-part_length}

pub returns-in_err-there : goal.returns-in_err-there
returns-in_err-there c =
    let a = c.args in
    let r = c.from_residual in
    passed_on r.result _ r.ensures.1 ∙ sym (sum-refused a.grid.shape a.tracer a.field.now _ (is-admitted a.grid.shape a.grid.admitted) (sym c.in_err-there.ensures))

pub tracer_start-start-requires : goal.tracer_start-start-requires
tracer_start-start-requires c = let a = c.args in (there a.grid.shape a.tracer a.field.now (sym c.in_ok-there.ensures)).tracer

-- the tracer's part ends within the field
ends : (c : After-part_length) → (c.tracer_start-start.result + c.part_length.result ≤ length c.args.field.now) × (c.tracer_start-start.result + c.part_length.result ≤ 327688)
ends c =
    let g = c.args.grid.shape in
    let k = there g c.args.tracer c.args.field.now (sym c.in_ok-there.ensures) in
    let r = tracer-room g c.args.tracer k.tracer in
    (omega (arith, r, k.room, c.tracer_start-start.ensures, c.part_length.ensures), omega (arith, r, field_is g, field-le g c.args.grid.admitted, c.tracer_start-start.ensures, c.part_length.ensures))

pub overflow_add-end : goal.overflow_add-end
overflow_add-end c = record { fits = omega (arith, ends (goal.at.overflow_add-end c).After-part_length) }

pub offset_bounds-field-start : goal.offset_bounds-field-start
offset_bounds-field-start c = record { fits = omega (arith, ends (goal.at.offset_bounds-field-start c).After-part_length) }

pub slice_bounds-part_sum-end : goal.slice_bounds-part_sum-end
slice_bounds-part_sum-end c = omega (arith, ends (goal.at.slice_bounds-part_sum-end c).After-part_length)

-- what is lent is the tracer's part
lent_is : (c : After-part_length) → take (c.tracer_start-start.result + c.part_length.result - c.tracer_start-start.result) (drop c.tracer_start-start.result c.args.field.now) ≡ part quadratic c.args.grid.shape c.args.tracer c.args.field.now
unfolding part
lent_is c = rw (add-sub_cancel_left c.tracer_start-start.result c.part_length.result, c.tracer_start-start.ensures, c.part_length.ensures) refl

pub part_sum-requires : goal.part_sum-requires
part_sum-requires c =
    let a = c.args in
    let k = there a.grid.shape a.tracer a.field.now (sym c.in_ok-there.ensures) in
    ap length (lent_is (goal.at.part_sum-requires c).After-part_length) ∙ length-part quadratic a.grid.shape a.tracer a.field.now k.tracer k.room

pub returns : goal.returns
returns c =
    let a = c.args in
    c.part_sum.ensures ∙ ap (compared a.grid.shape) (lent_is (goal.at.returns c).After-part_length)
    ∙ sym (sum-there a.grid.shape a.tracer a.field.now (is-admitted a.grid.shape a.grid.admitted) (sym c.in_ok-there.ensures))
