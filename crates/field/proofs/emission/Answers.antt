-- Emission: each refusal is the definition's by what the reading of the element and the stored total says; an accepted one writes the element and
-- then the stored total in place, which is the tracer's part with both replaced.
use mathlib.Core.Path.{◌≡◌, sym, ap, ◌∙◌}
use Prim.Native.Nat.{◌≤◌, ◌+◌, ◌-◌}
use native.Mathlib.Omega.{arith}
use native.Mathlib.Nat.{add-sub_cancel_left}
use lib.ListN.{length, take, drop}
use Rattle.rules.specs.Answers.{accepted}
use Rattle.rules.specs.Field.{quadratic, element, field_length, part}
use Rattle.rules.specs.Calls.{emission, emitted, done}
use Rattle.rules.proofs.AnswerLaws.{passed_on}
use Rattle.rules.proofs.CallLaws.{length-emitted}
use Rattle.field_layout.specs.Places.{Inside}
use Rattle.field_layout.proofs.GridLaws.{refused-2}
use Rattle.field.proofs.CheckLaws.{Held, held, grid-refused, call-refused, call-accepted, on_shape, call-bad-shape, emission-refused, emission-above, emission-accepted}
use Rattle.field.proofs.InPlaceLaws.{mass-lent, emitted-lent, back-in-place}
use Rattle.field.proofs.emission.Goals as goal
use Rattle.field.proofs.emission.Goals.{After-element_start-start, After-emit-clipped, In_ok-named}

-- what the reading of the element and the stored total says
known : (c : In_ok-named) → Held c.in_ok-grid.grid.shape c.args.tracer c.args.i c.args.j c.args.field.now c.in_ok-named.named
known c = let a = c.args in held c.in_ok-grid.grid.shape a.tracer a.i a.j a.field.now _ (sym c.in_ok-named.ensures)

pub returns-in_err-grid : goal.returns-in_err-grid
returns-in_err-grid c =
    let a = c.args in
    let e = call-refused _ a.shape a.tracer (emission a.i a.j a.q) a.field.now 2 (call-bad-shape a.shape a.tracer (emission a.i a.j a.q) a.field.now c.in_err-grid.ensures.0) in
    (refused-2 a.shape c.from_residual.result _ c.from_residual.ensures.1 c.in_err-grid.ensures ∙ e.0, e.1)

pub returns-in_err-named : goal.returns-in_err-named
returns-in_err-named c =
    let r = c.from_residual-in_err-named in
    let e = grid-refused _ _ _ c.in_ok-grid.ensures.1 (emission-refused _ _ _ _ _ _ _ (sym c.in_err-named.ensures)) in
    (passed_on r.result _ r.ensures.1 ∙ e.0, e.1)

pub overflow_sub-named : goal.overflow_sub-named
overflow_sub-named c = (known (goal.at.overflow_sub-named c).In_ok-named).small

pub returns-then-named-q : goal.returns-then-named-q
returns-then-named-q c =
    let h = known (goal.at.returns-then-named-q c).In_ok-named in
    grid-refused _ _ _ c.in_ok-grid.ensures.1 (emission-above _ _ _ _ _ _ _ (sym c.in_ok-named.ensures) (omega (arith, c.if-named-q.true, h.small)))

pub element_start-start-requires : goal.element_start-start-requires
element_start-start-requires c = (known (goal.at.element_start-start-requires c).In_ok-named).within

pub slice_bounds-emit-end : goal.slice_bounds-emit-end
slice_bounds-emit-end c = omega (arith, c.element_start-start.ensures.room, (known (goal.at.slice_bounds-emit-end c).In_ok-named).room)

-- what is lent holds the element's mass, which is at most the stored total
pub emit-clipped-requires-clause-q_bound : goal.emit-clipped-requires-clause-q_bound
emit-clipped-requires-clause-q_bound c =
    let a = c.args in
    let h = known (goal.at.emit-clipped-requires-clause-q_bound c).In_ok-named in
    let at = c.element_start-start.result in
    omega (arith, mass-lent c.in_ok-grid.grid.shape a.tracer a.i a.j a.field.now h.within h.room at c.element_start-start.ensures.start (at + 10 - at) (add-sub_cancel_left at 10), h.is, h.most, h.small, c.if-named-q.false)

pub store_total-requires : goal.store_total-requires
store_total-requires c =
    let h = known (goal.at.store_total-requires c).In_ok-named in
    let r = h.room in record { there = h.within.tracer; room = omega arith; small = omega (arith, c.if-named-q.false, h.small) }

-- what the element is closed to is what the definition closes it to in its tracer's part
closed : (c : After-emit-clipped) → Inside c.in_ok-grid.grid.shape c.args.tracer c.args.i c.args.j → field_length quadratic c.in_ok-grid.grid.shape ≤ length c.args.field.now
    → let at = c.element_start-start.result in
    emitted quadratic 0 c.args.q (take (at + 10 - at) (drop at c.args.field.now)) ≡ emitted quadratic (element c.in_ok-grid.grid.shape c.args.i c.args.j) c.args.q (part quadratic c.in_ok-grid.grid.shape c.args.tracer c.args.field.now)
closed c w r =
    let a = c.args in
    let at = c.element_start-start.result in
    emitted-lent c.in_ok-grid.grid.shape a.tracer a.i a.j a.field.now w r at c.element_start-start.ensures.start (at + 10 - at) (add-sub_cancel_left at 10) a.q

pub returns : goal.returns
unfolding done
returns c =
    let a = c.args in
    let g = c.in_ok-grid.grid.shape in
    let at = c.element_start-start.result in
    let s = goal.at.returns c in
    let h = known s.In_ok-named in
    let same = closed s.After-emit-clipped h.within h.room in
    let e = call-accepted _ g a.tracer (emission a.i a.j a.q) a.field.now _ (emission-accepted g a.tracer a.i a.j a.field.now a.q _ (sym c.in_ok-named.ensures) (omega (arith, c.if-named-q.false, h.small))) in
    on_shape _ _ _ _ c.in_ok-grid.ensures.1 (
      ap accepted (c.emit-clipped.ensures.clipped ∙ ap (λ y. y.clipped) same) ∙ e.0,
      c.store_total.ensures ∙ back-in-place g a.tracer a.i a.j a.field.now h.within h.room at c.element_start-start.ensures.start (at + 10 - at) (add-sub_cancel_left at 10) _ _ (c.emit-clipped.ensures.numbers ∙ ap (λ y. y.numbers) same) (length-emitted quadratic (element g a.i a.j) a.q (part quadratic g a.tracer a.field.now))
          _ _ (ap (λ n. n + a.q) h.stored) ∙ e.1,
    )
