-- The map's answer by its tests: the page's length, then what the sum answers; then the page itself.
use mathlib.Core.Path.{◌≡◌, sym, ap, ◌∙◌}
use Prim.Native.Nat.{◌≤◌}
use native.Mathlib.Nat.{zero-add}
use native.Mathlib.Omega.{arith}
use lib.ListN.{length}
use Rattle.rules.proofs.AnswerLaws.{passed_on}
use Rattle.rules.specs.Answers.{accepted}
use Rattle.field.specs.Leaves.{sum_reading}
use Rattle.rules.specs.Map.{page_length}
use Rattle.field_layout.proofs.GridLaws.{refused-2}
use Rattle.field_layout.proofs.PlaceLaws.{is-admitted}
use Rattle.field.proofs.CheckLaws.{sum-found}
use Rattle.map.proofs.CheckLaws.{on_shape, map-bad-shape, map-short, map-refused, map_found, page-kept, page-written}
use Rattle.map.proofs.map.Goals as goal
use Rattle.map.proofs.map.Goals.{In_ok-sum, Else-page-page_length}

pub returns-in_err-grid : goal.returns-in_err-grid
returns-in_err-grid c =
    let a = c.args in
    let e = page-kept a.shape a.tracer a.field.now a.page.now 2 (map-bad-shape a.shape a.tracer a.field.now a.page.now c.in_err-grid.ensures.0) in
    (refused-2 a.shape c.from_residual.result _ c.from_residual.ensures.1 c.in_err-grid.ensures ∙ e.0, e.1)

pub returns-then-page-page_length : goal.returns-then-page-page_length
returns-then-page-page_length c =
    let a = c.args in
    let g = c.in_ok-grid.grid in
    on_shape a.tracer a.field.now a.page.now c.in_ok-grid.ensures.1 (page-kept g.shape a.tracer a.field.now a.page.now 4 (map-short g.shape a.tracer a.field.now a.page.now (is-admitted g.shape g.admitted) (rw c.page_length.ensures at c.if-page-page_length.true)))

-- what the test says
room : (c : Else-page-page_length) → page_length c.in_ok-grid.grid.shape ≤ length c.args.page.now
room c = rw c.page_length.ensures at c.if-page-page_length.false

pub returns-in_err-sum : goal.returns-in_err-sum
returns-in_err-sum c =
    let a = c.args in
    let g = c.in_ok-grid.grid.shape in
    let r = c.from_residual-in_err-sum in
    let e = on_shape a.tracer a.field.now a.page.now c.in_ok-grid.ensures.1 (page-kept g a.tracer a.field.now a.page.now _ (map-refused g a.tracer a.field.now a.page.now (room (goal.at.returns-in_err-sum c).Else-page-page_length) _ (sym c.in_err-sum.ensures))) in
    (passed_on r.result _ r.ensures.1 ∙ e.0, e.1)

-- what an accepted sum says
read : (c : In_ok-sum) → let a = c.args in sum_reading c.in_ok-grid.grid.shape a.tracer a.field.now ≡ accepted c.in_ok-sum.sum
read c = sym c.in_ok-sum.ensures

pub page-end-requires : goal.page-end-requires
page-end-requires c =
    let a = c.args in
    let h = sum-found c.in_ok-grid.grid.shape a.tracer a.field.now _ (read (goal.at.page-end-requires c).In_ok-sum) in
    record { printable = record { tracer = h.tracer; room = h.room; small = omega (arith, h.is, h.small) }; sum_value = h.is; shape_in_bounds = room (goal.at.page-end-requires c).Else-page-page_length }

pub returns : goal.returns
returns c =
    let a = c.args in
    let g = c.in_ok-grid.grid.shape in
    let w = c.page-end.ensures in
    let answer = map_found g a.tracer a.field.now a.page.now (room (goal.at.returns c).Else-page-page_length) _ (read (goal.at.returns c).In_ok-sum) in
    on_shape a.tracer a.field.now a.page.now c.in_ok-grid.ensures.1 (ap accepted (w.ends ∙ zero-add _) ∙ sym answer, w.same ∙ page-written g a.tracer a.field.now a.page.now _ answer)
