-- Wind: each test is a check of the definition, in its order, and one store is the winds after it.
use mathlib.Core.Path.{◌≡◌, sym, ap, ◌∙◌}
use mathlib.Core.Bool.{true}
use Prim.Native.Nat.{◌≤◌}
use borrow.Author.Rules.{rules}
use native.Mathlib.Omega.{arith}
use lib.ListN.{length}
use mir.Syntax.{w16}
use mir.Val.{to_z, of_z}
use Rattle.rules.specs.Field.{faces, on_grid, wind_in_range}
use Rattle.field_layout.proofs.GridLaws.{refused-2}
use Rattle.field_layout.proofs.PlaceLaws.{is-admitted}
use Rattle.field.proofs.WindFreshLoad.{wind-on-shape, wind-2, wind-4, wind-5, wind-8, wind-done}
use Rattle.field.proofs.wind.Goals as goal
use Rattle.field.proofs.wind.Goals.{After-face_at, After-struct_told-1, Else-not-on_grid, Else-not-wind_in_range, Else-winds-faces}

pub returns-in_err-grid : goal.returns-in_err-grid
returns-in_err-grid c =
    let a = c.args in
    let e = wind-2 a.shape a.face a.winds.now c.in_err-grid.ensures.0 in
    (refused-2 a.shape c.from_residual.result _ c.from_residual.ensures.1 c.in_err-grid.ensures ∙ e.0, e.1)

-- the wind read from its bits
whole : (c : After-struct_told-1) → to_z w16 (of_z w16 c.args.face.wind) ≡ c.args.face.wind
whole c = search rules

-- what each passed test says
room : (c : Else-winds-faces) → faces c.in_ok-grid.grid.shape ≤ length c.args.winds.now
room c = omega (arith, c.faces.ensures)

range : (c : Else-not-wind_in_range) → wind_in_range c.args.face.wind ≡ true
range c = ap wind_in_range (sym ((let h : to_z w16 (of_z w16 c.args.face.wind) ≡ c.args.face.wind = search rules in h))) ∙ sym c.wind_in_range.ensures ∙ c.if-not-wind_in_range.false

grid : (c : Else-not-on_grid) → on_grid c.in_ok-grid.grid.shape c.args.face.i c.args.face.j ≡ true
grid c = sym c.on_grid.ensures ∙ c.if-not-on_grid.false

pub returns-then-winds-faces : goal.returns-then-winds-faces
returns-then-winds-faces c = wind-on-shape c.args.face c.args.winds.now c.in_ok-grid.ensures.1 (wind-4 _ _ _ (is-admitted _ c.in_ok-grid.grid.admitted) (omega (arith, c.faces.ensures)))

pub returns-then-not-wind_in_range : goal.returns-then-not-wind_in_range
returns-then-not-wind_in_range c = wind-on-shape c.args.face c.args.winds.now c.in_ok-grid.ensures.1 (wind-5 _ _ _ (is-admitted _ c.in_ok-grid.grid.admitted) (room (goal.at.returns-then-not-wind_in_range c).Else-winds-faces) (ap wind_in_range (sym (whole (goal.at.returns-then-not-wind_in_range c).After-struct_told-1)) ∙ sym c.wind_in_range.ensures ∙ c.if-not-wind_in_range.true))

pub returns-then-not-on_grid : goal.returns-then-not-on_grid
returns-then-not-on_grid c = wind-on-shape c.args.face c.args.winds.now c.in_ok-grid.ensures.1 (wind-8 _ _ _ (is-admitted _ c.in_ok-grid.grid.admitted) (room (goal.at.returns-then-not-on_grid c).Else-winds-faces) (range (goal.at.returns-then-not-on_grid c).Else-not-wind_in_range) (sym c.on_grid.ensures ∙ c.if-not-on_grid.true))

pub returns : goal.returns
returns c = let a = c.args in wind-on-shape a.face a.winds.now c.in_ok-grid.ensures.1 (rw (c.face_at.ensures, whole (goal.at.returns c).After-struct_told-1) (wind-done c.in_ok-grid.grid.shape a.face a.winds.now (is-admitted _ c.in_ok-grid.grid.admitted) (room (goal.at.returns c).Else-winds-faces) (range (goal.at.returns c).Else-not-wind_in_range) (grid (goal.at.returns c).Else-not-on_grid)))
