-- Fresh: by the tests before it each way out is one of the definition's answers, and zeros over both fronts are its field and wind.
use mathlib.Core.Path.{ap, ◌∙◌}
use Prim.Native.Nat.{◌≤◌}
use native.Mathlib.Omega.{arith}
use lib.IntN.{pos}
use lib.ListN.{length, replicate}
use Rattle.std.proofs.Common.{rules}
use Rattle.whole.specs.Table.{overwrite}
use Rattle.whole.proofs.OverwriteLaws.{filled-part}
use Rattle.rules.specs.Field.{quadratic, faces, field_length}
use Rattle.field_layout.proofs.GridLaws.{refused-2}
use Rattle.field_layout.proofs.PlaceLaws.{is-admitted}
use Rattle.field.proofs.WindFreshLoad.{fresh-on-shape, fresh-2, fresh-4-field, fresh-4-wind, fresh-done}
use Rattle.field.proofs.fresh.Goals as goal
use Rattle.field.proofs.fresh.Goals.{Else-field-length, Else-winds-faces}

pub returns-in_err-grid : goal.returns-in_err-grid
returns-in_err-grid c =
    let a = c.args in
    let e = fresh-2 a.shape a.field.now a.winds.now c.in_err-grid.ensures.0 in
    (refused-2 a.shape c.from_residual.result _ c.from_residual.ensures.1 c.in_err-grid.ensures ∙ e.0, e.1)

-- what each passed test says
room : (c : Else-field-length) → field_length quadratic c.in_ok-grid.grid.shape ≤ length c.args.field.now
room c = omega (arith, c.field_length-length.ensures)

room-wind : (c : Else-winds-faces) → faces c.in_ok-grid.grid.shape ≤ length c.args.winds.now
room-wind c = omega (arith, c.faces-faces.ensures)

pub returns-then-field-length : goal.returns-then-field-length
returns-then-field-length c = fresh-on-shape c.args.field.now c.args.winds.now c.in_ok-grid.ensures.1 (fresh-4-field _ _ _ (is-admitted _ c.in_ok-grid.grid.admitted) (omega (arith, c.field_length-length.ensures)))

pub returns-then-winds-faces : goal.returns-then-winds-faces
returns-then-winds-faces c = fresh-on-shape c.args.field.now c.args.winds.now c.in_ok-grid.ensures.1 (fresh-4-wind _ _ _ (is-admitted _ c.in_ok-grid.grid.admitted) (room (goal.at.returns-then-winds-faces c).Else-field-length) (omega (arith, c.faces-faces.ensures)))

pub returns : goal.returns
returns c =
    let f = filled-part c.field_length-length.result 0 c.args.field.now c.fill.new.self (omega arith) (c.fill.ensures.after (λ y h. search rules)) ∙ ap (λ n. overwrite 0 (replicate n 0) c.args.field.now) c.field_length-length.ensures in
    let w = filled-part c.faces-faces.result (pos 0) c.args.winds.now c.fill-2.new.self (omega arith) (c.fill-2.ensures.after (λ y h. search rules)) ∙ ap (λ n. overwrite 0 (replicate n (pos 0)) c.args.winds.now) c.faces-faces.ensures in
    let d = fresh-done c.in_ok-grid.grid.shape c.args.field.now c.args.winds.now (is-admitted _ c.in_ok-grid.grid.admitted) (room (goal.at.returns c).Else-field-length) (room-wind (goal.at.returns c).Else-winds-faces) in
    fresh-on-shape c.args.field.now c.args.winds.now c.in_ok-grid.ensures.1 (d.0, (f ∙ d.1.0, w ∙ d.1.1))
