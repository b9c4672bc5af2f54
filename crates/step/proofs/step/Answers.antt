-- The step: a refused one leaves every buffer; an accepted one lends the tracer's part and the front of work, and what comes back in
-- place is the definition's field, report and work, and what is answered its clipped mass.
use mathlib.Core.Path.{◌≡◌, sym, ap, ◌∙◌}
use mathlib.Core.List.{◌++◌}
use Prim.Native.Nat.{◌≤◌, ◌-◌, ◌+◌}
use borrow.Author.Rules.{rules}
use native.Mathlib.Omega.{arith}
use native.Mathlib.Nat.{add-sub_cancel_left}
use lib.ListN.{length, take, drop}
use lib.Seq.{length-take-le}
use Rattle.rules.proofs.AnswerLaws.{refused-at-most, accepted-at-most, passed_on, mapped-refused}
use Rattle.rules.specs.Answers.{accepted}
use Rattle.rules.specs.Field.{quadratic, part, sound}
use Rattle.rules.specs.Step.{tracer_step}
use Rattle.rules.specs.Calls.{step, lent, wind_at, done, call}
use Rattle.rules.proofs.PartLaws.{length-part}
use Rattle.rules.proofs.StepLaws.{length-after, report-length}
use Rattle.field_layout.specs.Places.{most_field}
use Rattle.field_layout.proofs.GridLaws.{refused-2}
use Rattle.field.proofs.CheckLaws.{call-accepted, call-bad-shape}
use Rattle.field_layout.proofs.PlaceLaws.{field_is, field-le, tracer-room}
use Rattle.step.proofs.CheckLaws.{Stepping, stepping, report-back, report-accepted, work-accepted, left, on_shape, part-back}
use Rattle.step.proofs.step.Goals as goal
use Rattle.step.proofs.step.Goals.{After-part_length, After-work_needed-needed, In_ok-check}

-- what the checks have shown
facts : (c : In_ok-check) → Stepping c.in_ok-grid.grid.shape c.args.tracer c.args.field.now c.args.wind.now (length c.args.report.now) (length c.args.work.now)
facts c = stepping c.in_ok-grid.grid.shape c.args.tracer c.args.field.now c.args.wind.now (length c.args.report.now) (length c.args.work.now) (sym c.in_ok-check.ensures)

pub tracer_start-start-requires : goal.tracer_start-start-requires
tracer_start-start-requires c = (facts (goal.at.tracer_start-start-requires c).In_ok-check).tracer

-- the tracer's part ends within the field, and what is lent is that part
ends : (c : After-part_length) → (c.tracer_start-start.result + c.part_length.result ≤ length c.args.field.now) × (c.tracer_start-start.result + c.part_length.result ≤ most_field)
ends c =
    let a = c.args in
    let g = c.in_ok-grid.grid.shape in
    let h = facts c.before.before in
    let r = tracer-room g a.tracer h.tracer in
    (omega (arith, r, h.room, c.tracer_start-start.ensures, c.part_length.ensures), omega (arith, r, field_is g, field-le g h.shape, c.tracer_start-start.ensures, c.part_length.ensures))

lent_is : (c : After-part_length) → take (c.tracer_start-start.result + c.part_length.result - c.tracer_start-start.result) (drop c.tracer_start-start.result c.args.field.now) ≡ part quadratic c.in_ok-grid.grid.shape c.args.tracer c.args.field.now
unfolding part
lent_is c = rw (add-sub_cancel_left c.tracer_start-start.result c.part_length.result, c.tracer_start-start.ensures, c.part_length.ensures)

pub overflow_add-end : goal.overflow_add-end
overflow_add-end c = record { fits = omega (arith, ends (goal.at.overflow_add-end c).After-part_length) }

pub offset_bounds-field-start : goal.offset_bounds-field-start
offset_bounds-field-start c = omega (arith, ends (goal.at.offset_bounds-field-start c).After-part_length)

pub slice_bounds-step-end : goal.slice_bounds-step-end
slice_bounds-step-end c = omega (arith, ends (goal.at.slice_bounds-step-end c).After-part_length)

-- the numbers of the report and of work that are needed are there, and they alone are lent
reports-there : (c : After-work_needed-needed) → Stepping c.in_ok-grid.grid.shape c.args.tracer c.args.field.now c.args.wind.now (length c.args.report.now) (length c.args.work.now) → c.faces-faces.result ≤ length c.args.report.now
reports-there c h = omega (arith, c.faces-faces.ensures, h.reports)

works-there : (c : After-work_needed-needed) → Stepping c.in_ok-grid.grid.shape c.args.tracer c.args.field.now c.args.wind.now (length c.args.report.now) (length c.args.work.now) → c.work_needed-needed.result ≤ length c.args.work.now
works-there c h = omega (arith, c.work_needed-needed.ensures, h.works)

pub slice_bounds-step-end-2 : goal.slice_bounds-step-end-2
slice_bounds-step-end-2 c = reports-there (goal.at.slice_bounds-step-end-2 c).After-work_needed-needed (facts (goal.at.slice_bounds-step-end-2 c).In_ok-check)

pub slice_bounds-step-end-3 : goal.slice_bounds-step-end-3
slice_bounds-step-end-3 c = sym (length-take-le c.faces-faces.result _ (reports-there (goal.at.slice_bounds-step-end-3 c).After-work_needed-needed (facts (goal.at.slice_bounds-step-end-3 c).In_ok-check)))

pub slice_bounds-step-end-4 : goal.slice_bounds-step-end-4
slice_bounds-step-end-4 c = works-there (goal.at.slice_bounds-step-end-4 c).After-work_needed-needed (facts (goal.at.slice_bounds-step-end-4 c).In_ok-check)

pub slice_bounds-step-end-5 : goal.slice_bounds-step-end-5
slice_bounds-step-end-5 c = sym (length-take-le c.work_needed-needed.result _ (works-there (goal.at.slice_bounds-step-end-5 c).After-work_needed-needed (facts (goal.at.slice_bounds-step-end-5 c).In_ok-check)))

pub step-requires : goal.step-requires
step-requires c =
    let a = c.args in
    let g = c.in_ok-grid.grid.shape in
    let h = facts (goal.at.step-requires c).In_ok-check in
    let lent = lent_is (goal.at.step-requires c).After-part_length in record {
      part_len = ap length lent ∙ length-part quadratic g a.tracer a.field.now h.tracer h.room;
      part_sound = ap (sound quadratic g) lent ∙ h.part-sound;
      report_len = length-take-le c.faces-faces.result a.report.now (reports-there (goal.at.step-requires c).After-work_needed-needed h) ∙ c.faces-faces.ensures;
      work_len = omega (arith, length-take-le c.work_needed-needed.result a.work.now (works-there (goal.at.step-requires c).After-work_needed-needed h), c.work_needed-needed.ensures);
    }

pub returns-in_err-grid : goal.returns-in_err-grid
returns-in_err-grid c =
    let a = c.args in
    let op = step (lent a.wind.now a.report.now a.work.now) in
    let p = left a.shape a.tracer op a.field.now a.report.now a.work.now 2 (call-bad-shape a.shape a.tracer op a.field.now c.in_err-grid.ensures.0) in
    let e = refused-2 a.shape c.from_residual.result _ c.from_residual.ensures.1 c.in_err-grid.ensures in
    record { gives = (e ∙ p.0, p.1); bound = refused-at-most _ 2 e }

pub returns-in_err-check : goal.returns-in_err-check
returns-in_err-check c =
    let a = c.args in
    let g = c.in_ok-grid.grid.shape in
    let op = step (lent a.wind.now a.report.now a.work.now) in
    let r = c.from_residual-in_err-check in
    let p = on_shape _ a.tracer op a.field.now a.report.now a.work.now c.in_ok-grid.ensures.1 (left g a.tracer op a.field.now a.report.now a.work.now _ (mapped-refused (λ x. tt) (call quadratic g a.tracer op a.field.now).reply _ (sym c.in_err-check.ensures))) in
    let e = passed_on r.result _ r.ensures.1 in
    record { gives = (e ∙ p.0, p.1); bound = refused-at-most _ _ e }

pub shape_of-work : goal.shape_of-work
shape_of-work c = search rules

pub returns-clause-gives : goal.returns-clause-gives
unfolding done tracer_step
returns-clause-gives c =
    let a = c.args in
    let g = c.in_ok-grid.grid.shape in
    let s = c.tracer_start-start in
    let n = c.part_length.result in
    let h = facts (goal.at.returns-clause-gives c).In_ok-check in
    let l = lent a.wind.now a.report.now a.work.now in
    let w = wind_at a.wind.now in
    let p = part quadratic g a.tracer a.field.now in
    let x = c.step.new.work in
    let y = c.step.new.report in
    let there = works-there (goal.at.returns-clause-gives c).After-work_needed-needed h in
    let same = ap (tracer_step quadratic g w) (lent_is (goal.at.returns-clause-gives c).After-part_length) in
    let report : y ≡ (tracer_step quadratic g w p).report = c.step.ensures.report_after ∙ ap (λ d. d.report) same in
    let e = h.answers in
    let q = call-accepted (λ x. x.clipped) g a.tracer (step l) a.field.now _ e in
    on_shape _ a.tracer (step l) a.field.now a.report.now a.work.now c.in_ok-grid.ensures.1 (
      ap accepted (c.step.ensures.clipped_after ∙ ap (λ d. d.clipped) same) ∙ q.0,
      (
        part-back g a.tracer s.result (s.result + n - s.result) _ (tracer_step quadratic g w p).part a.field.now s.ensures (add-sub_cancel_left s.result n ∙ c.part_length.ensures)
            (c.step.ensures.part_after ∙ ap (λ d. d.part) same) (length-after quadratic g p _ _) ∙ q.1,
        (
          report-back c.faces-faces.result _ a.report.now (c.faces-faces.ensures ∙ sym (report-length quadratic g p _)) report ∙ report-accepted _ _ a.report.now e,
          work-accepted g _ _ a.work.now x _ e (ap (λ k. x ++ drop k a.work.now) c.work_needed-needed.ensures) (search rules) (search rules),
        ),
      ),
    )

pub returns-clause-bound : goal.returns-clause-bound
returns-clause-bound c = accepted-at-most _ _ c.step.ensures.upper_bound

pub invariant_of-step : goal.invariant_of-step
invariant_of-step c = record { in_range = (facts (goal.at.invariant_of-step c).In_ok-check).wind-range }
