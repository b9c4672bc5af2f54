-- The import: 2 and 4, then what the first walk answered; where that is acceptance, the second walk leaves the records' winds.
use mathlib.Core.Path.{ap, ◌∙◌}
use Prim.Native.Nat.{◌≤◌}
use native.Mathlib.Omega.{arith}
use lib.ListN.{length}
use Rattle.rules.specs.Field.{elements, faces}
use Rattle.rules.proofs.AnswerLaws.{passed_on}
use Rattle.field_layout.proofs.GridLaws.{refused-2}
use Rattle.wind_import.proofs.ImportLaws.{import-2, import-4, import-refused, import-done}
use Rattle.wind_import.proofs.import.Goals as goal
use Rattle.wind_import.proofs.import.Goals.{Else-wind-faces}

pub returns-in_err-grid : goal.returns-in_err-grid
returns-in_err-grid c =
    let r = import-2 c.args.shape c.args.records.now c.args.wind.now c.in_err-grid.ensures.0 in
    (refused-2 c.args.shape c.from_residual.result _ c.from_residual.ensures.1 c.in_err-grid.ensures ∙ r.0, r.1)

-- what a passed test says of the shape
room : (c : Else-wind-faces) → faces c.args.shape ≤ length c.args.wind.now
room c = omega (arith, c.faces.ensures, ap faces c.in_ok-grid.ensures.1)

pub returns-then-wind-faces : goal.returns-then-wind-faces
returns-then-wind-faces c = import-4 _ _ _ c.in_ok-grid.ensures.0 (omega (arith, c.faces.ensures, ap faces c.in_ok-grid.ensures.1))

pub returns-in_err-check : goal.returns-in_err-check
returns-in_err-check c =
    let r = import-refused _ _ _ c.in_ok-grid.ensures.0 (room (goal.at.returns-in_err-check c).Else-wind-faces) _ (c.elements-n.ensures ∙ ap elements c.in_ok-grid.ensures.1) _ c.in_err-check.ensures in
    (passed_on c.from_residual-in_err-check.result _ c.from_residual-in_err-check.ensures.1 ∙ r.0, r.1)

pub returns : goal.returns
returns c =
    import-done _ _ _ c.in_ok-grid.ensures.0 (room (goal.at.returns c).Else-wind-faces) _ (c.elements-n.ensures ∙ ap elements c.in_ok-grid.ensures.1) c.in_ok-check.ensures
    c.split_at_mut-easts.ensures.front_len c.lay.ensures.east c.lay.ensures.north c.split_at_mut-easts.ensures.back
