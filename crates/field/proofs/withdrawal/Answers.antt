-- Withdrawal: each refusal is the definition's by what the reading of the element and the stored total says; an accepted one writes the element and
-- then the stored total in place, which is the tracer's part with both replaced.
use mathlib.Core.Path.{◌≡◌, sym, ap, ◌∙◌}
use Prim.Native.Nat.{◌≤◌, ◌+◌, ◌-◌}
use native.Mathlib.Omega.{arith}
use native.Mathlib.Nat.{add-sub_cancel_left}
use lib.ListN.{length, take, drop}
use Rattle.rules.specs.Answers.{accepted}
use Rattle.rules.specs.Field.{quadratic, element, field_length, mass, part}
use Rattle.rules.specs.Calls.{withdrawal, withdrawn, done}
use Rattle.rules.proofs.AnswerLaws.{passed_on}
use Rattle.rules.proofs.CallLaws.{length-withdrawn}
use Rattle.field_layout.specs.Places.{Inside}
use Rattle.field_layout.proofs.GridLaws.{refused-2}
use Rattle.field.proofs.CheckLaws.{Held, held, grid-refused, call-refused, call-accepted, on_shape, call-bad-shape, withdrawal-refused, withdrawal-over, withdrawal-accepted}
use Rattle.field.proofs.InPlaceLaws.{mass-lent, withdrawn-lent, back-in-place}
use Rattle.field.proofs.withdrawal.Goals as goal
use Rattle.field.proofs.withdrawal.Goals.{After-element_start-start, After-withdraw-clipped, In_ok-named}

-- what the reading of the element and the stored total says
known : (c : In_ok-named) → Held c.in_ok-grid.grid.shape c.args.tracer c.args.i c.args.j c.args.field.now c.in_ok-named.named
known c = let a = c.args in held c.in_ok-grid.grid.shape a.tracer a.i a.j a.field.now _ (sym c.in_ok-named.ensures)

pub returns-in_err-grid : goal.returns-in_err-grid
returns-in_err-grid c =
    let a = c.args in
    let e = call-refused _ a.shape a.tracer (withdrawal a.i a.j a.q) a.field.now 2 (call-bad-shape a.shape a.tracer (withdrawal a.i a.j a.q) a.field.now c.in_err-grid.ensures.0) in
    (refused-2 a.shape c.from_residual.result _ c.from_residual.ensures.1 c.in_err-grid.ensures ∙ e.0, e.1)

pub returns-in_err-named : goal.returns-in_err-named
returns-in_err-named c =
    let r = c.from_residual-in_err-named in
    let e = grid-refused _ _ _ c.in_ok-grid.ensures.1 (withdrawal-refused _ _ _ _ _ _ _ (sym c.in_err-named.ensures)) in
    (passed_on r.result _ r.ensures.1 ∙ e.0, e.1)

pub returns-then-named-q : goal.returns-then-named-q
returns-then-named-q c = grid-refused _ _ _ c.in_ok-grid.ensures.1 (withdrawal-over _ _ _ _ _ _ _ (sym c.in_ok-named.ensures) c.if-named-q.true)

pub element_start-start-requires : goal.element_start-start-requires
element_start-start-requires c = (known (goal.at.element_start-start-requires c).In_ok-named).within

pub slice_bounds-withdraw-end : goal.slice_bounds-withdraw-end
slice_bounds-withdraw-end c = omega (arith, c.element_start-start.ensures.room, (known (goal.at.slice_bounds-withdraw-end c).In_ok-named).room)

-- what is lent holds the element's mass, which is at most the stored total
lent : (c : After-element_start-start) → Held c.in_ok-grid.grid.shape c.args.tracer c.args.i c.args.j c.args.field.now c.in_ok-named.named
    → let at = c.element_start-start.result in mass quadratic (take (at + 10 - at) (drop at c.args.field.now)) 0 ≡ c.in_ok-named.named.mass
lent c h =
    let a = c.args in
    let at = c.element_start-start.result in
    mass-lent c.in_ok-grid.grid.shape a.tracer a.i a.j a.field.now h.within h.room at c.element_start-start.ensures.start (at + 10 - at) (add-sub_cancel_left at 10) ∙ sym h.is

pub withdraw-clipped-requires-clause-part_bound : goal.withdraw-clipped-requires-clause-part_bound
withdraw-clipped-requires-clause-part_bound c =
    let s = goal.at.withdraw-clipped-requires-clause-part_bound c in
    let h = known s.In_ok-named in
    omega (arith, lent s.After-element_start-start h, h.most, h.small)

pub withdraw-clipped-requires-clause-q_bound : goal.withdraw-clipped-requires-clause-q_bound
withdraw-clipped-requires-clause-q_bound c =
    let s = goal.at.withdraw-clipped-requires-clause-q_bound c in
    omega (arith, lent s.After-element_start-start (known s.In_ok-named), c.if-named-q.false)

pub overflow_sub-named : goal.overflow_sub-named
overflow_sub-named c = omega (arith, c.if-named-q.false, (known (goal.at.overflow_sub-named c).In_ok-named).most)

pub store_total-requires : goal.store_total-requires
store_total-requires c =
    let h = known (goal.at.store_total-requires c).In_ok-named in
    let r = h.room in record { there = h.within.tracer; room = omega arith; small = omega (arith, h.small) }

-- what the element is closed to is what the definition closes it to in its tracer's part
closed : (c : After-withdraw-clipped) → Inside c.in_ok-grid.grid.shape c.args.tracer c.args.i c.args.j → field_length quadratic c.in_ok-grid.grid.shape ≤ length c.args.field.now
    → let at = c.element_start-start.result in
    withdrawn quadratic 0 c.args.q (take (at + 10 - at) (drop at c.args.field.now)) ≡ withdrawn quadratic (element c.in_ok-grid.grid.shape c.args.i c.args.j) c.args.q (part quadratic c.in_ok-grid.grid.shape c.args.tracer c.args.field.now)
closed c w r =
    let a = c.args in
    let at = c.element_start-start.result in
    withdrawn-lent c.in_ok-grid.grid.shape a.tracer a.i a.j a.field.now w r at c.element_start-start.ensures.start (at + 10 - at) (add-sub_cancel_left at 10) a.q

pub returns : goal.returns
unfolding done
returns c =
    let a = c.args in
    let g = c.in_ok-grid.grid.shape in
    let at = c.element_start-start.result in
    let s = goal.at.returns c in
    let h = known s.In_ok-named in
    let same = closed s.After-withdraw-clipped h.within h.room in
    let e = call-accepted _ g a.tracer (withdrawal a.i a.j a.q) a.field.now _ (withdrawal-accepted g a.tracer a.i a.j a.field.now a.q _ (sym c.in_ok-named.ensures) c.if-named-q.false) in
    on_shape _ _ _ _ c.in_ok-grid.ensures.1 (
      ap accepted (c.withdraw-clipped.ensures.clipped ∙ ap (λ y. y.clipped) same) ∙ e.0,
      c.store_total.ensures ∙ back-in-place g a.tracer a.i a.j a.field.now h.within h.room at c.element_start-start.ensures.start (at + 10 - at) (add-sub_cancel_left at 10) _ _ (c.withdraw-clipped.ensures.numbers ∙ ap (λ y. y.numbers) same) (length-withdrawn quadratic (element g a.i a.j) a.q (part quadratic g a.tracer a.field.now))
          _ _ (ap (λ n. n - a.q) h.stored) ∙ e.1,
    )
