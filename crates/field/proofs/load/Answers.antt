-- Load: each test is a check of the definition, in its order; the part that is lent, filled and given back is the tracer's part after the
-- load.
use mathlib.Core.Path.{◌≡◌, sym, ap, ◌∙◌}
use Prim.Native.Nat.{◌+◌, ◌-◌, ◌*◌, ◌≤◌}
use native.Mathlib.Omega.{arith}
use lib.ListN.{length}
use Rattle.whole.specs.Table.{blocks}
use Rattle.rules.specs.Field.{quadratic, elements, field_length, total}
use Rattle.rules.specs.Calls.{loaded}
use Rattle.rules.specs.Calls.{loaded_element}
use Rattle.field_layout.proofs.PlaceLaws.{is-admitted, elements-are}
use Rattle.whole.proofs.OverwriteLaws.{part-size}
use Rattle.field_layout.proofs.GridLaws.{refused-2}
use Rattle.field.proofs.CheckLaws.{on_shape}
use Rattle.field.proofs.WindFreshLoad.{load-total, load-back, load-2, load-4-field, load-4-numbers, load-7, load-9, load-done}
use Rattle.field.proofs.load.Goals as goal
use Rattle.field.proofs.load.Goals.{After-lay, After-total_at-end, After-loaded_total-total, Else-field-field_length, Else-numbers-n}

pub returns-in_err-grid : goal.returns-in_err-grid
returns-in_err-grid c =
    let a = c.args in
    let e = load-2 a.shape a.tracer a.numbers.now a.field.now c.in_err-grid.ensures.0 in
    (refused-2 a.shape c.from_residual.result _ c.from_residual.ensures.1 c.in_err-grid.ensures ∙ e.0, e.1)

-- what each passed test says
room : (c : Else-field-field_length) → field_length quadratic c.in_ok-grid.grid.shape ≤ length c.args.field.now
room c = omega (arith, c.field_length.ensures)

enough : (c : Else-numbers-n) → elements c.in_ok-grid.grid.shape * 9 ≤ length c.args.numbers.now
enough c = omega (arith, c.elements-n.ensures)

-- the sum that was made is the total
summed : (c : After-loaded_total-total) → c.loaded_total-total.result ≡ total quadratic c.in_ok-grid.grid.shape (loaded quadratic c.in_ok-grid.grid.shape c.args.numbers.now)
summed c =
    let a = c.args in
    (rw c.elements-n.ensures at c.loaded_total-total.ensures) ∙ sym (load-total c.in_ok-grid.grid.shape a.numbers.now)

pub returns-then-field-field_length : goal.returns-then-field-field_length
returns-then-field-field_length c = on_shape _ _ _ _ c.in_ok-grid.ensures.1 (load-4-field _ _ _ _ (is-admitted _ c.in_ok-grid.grid.admitted) (omega (arith, c.field_length.ensures)))

pub returns-then-numbers-n : goal.returns-then-numbers-n
returns-then-numbers-n c = on_shape _ _ _ _ c.in_ok-grid.ensures.1 (load-4-numbers _ _ _ _ (is-admitted _ c.in_ok-grid.grid.admitted) (room (goal.at.returns-then-numbers-n c).Else-field-field_length) (omega (arith, c.elements-n.ensures)))

pub returns-then-grid-tracer : goal.returns-then-grid-tracer
returns-then-grid-tracer c = on_shape _ _ _ _ c.in_ok-grid.ensures.1 (load-7 _ _ _ _ (is-admitted _ c.in_ok-grid.grid.admitted) (room (goal.at.returns-then-grid-tracer c).Else-field-field_length) (enough (goal.at.returns-then-grid-tracer c).Else-numbers-n) c.if-grid-tracer.true)

pub returns-then-total-gt-LIMIT : goal.returns-then-total-gt-LIMIT
returns-then-total-gt-LIMIT c = on_shape _ _ _ _ c.in_ok-grid.ensures.1 (load-9 _ _ _ _ (is-admitted _ c.in_ok-grid.grid.admitted) (room (goal.at.returns-then-total-gt-LIMIT c).Else-field-field_length) (enough (goal.at.returns-then-total-gt-LIMIT c).Else-numbers-n) c.if-grid-tracer.false (omega (arith, summed (goal.at.returns-then-total-gt-LIMIT c).After-loaded_total-total)))

-- the elements end where the stored total stands
width : (c : After-total_at-end) → c.total_at-end.result ≡ c.tracer_start-start.result + c.elements-n.result * 10
width c = omega (arith, c.total_at-end.ensures.place, c.tracer_start-start.ensures, elements-are c.in_ok-grid.grid.shape, ap (λ n. n * 10) c.elements-n.ensures)

pub lay-requires-clause-part_len : goal.lay-requires-clause-part_len
lay-requires-clause-part_len c =
    let s = goal.at.lay-requires-clause-part_len c in
    let start = c.tracer_start-start.result in
    let n = c.elements-n.result * 10 in
    part-size n start (c.total_at-end.result - start) c.args.field.now (omega (arith, width s.After-total_at-end))
    (omega (arith, width s.After-total_at-end, c.total_at-end.ensures.room, room s.Else-field-field_length))

-- what was laid
laid : (c : After-lay) → c.lay.new.part ≡ blocks (elements c.in_ok-grid.grid.shape) (loaded_element quadratic c.args.numbers.now)
laid c = c.lay.ensures ∙ ap (λ m. blocks m (loaded_element quadratic c.args.numbers.now)) c.elements-n.ensures

pub returns : goal.returns
returns c =
    let a = c.args in
    let g = c.in_ok-grid.grid.shape in
    let s = goal.at.returns c in
    let sum_is = summed s.After-loaded_total-total in
    let long = room s.Else-field-field_length in
    let d = load-done g a.tracer a.numbers.now a.field.now (is-admitted _ c.in_ok-grid.grid.admitted) long (enough s.Else-numbers-n) c.if-grid-tracer.false (omega (arith, sum_is, c.if-total-gt-LIMIT.false)) in
    on_shape _ _ _ _ c.in_ok-grid.ensures.1 (
      d.0,
      c.store_total.ensures ∙ load-back g a.tracer a.numbers.now a.field.now c.tracer_start-start.result c.total_at-end.result c.lay.new.part c.tracer_start-start.ensures c.total_at-end.ensures.place
          (laid s.After-lay) (omega (arith, c.total_at-end.ensures.room, long)) c.loaded_total-total.result sum_is ∙ d.1,
    )
