use mathlib.Core.Path.{sym, ◌∙◌}
use Rattle.rules.proofs.AnswerLaws.{passed_on}
use Rattle.rules.specs.Field.{quadratic}
use Rattle.file_layout.proofs.ReplyLaws.{Writable, write-shown, file-written, file-kept}
use Rattle.field_layout.proofs.GridLaws.{refused-2}
use Rattle.file_writing.proofs.WriteChecks.{write-2, on_shape}
use Rattle.file_writing.proofs.write.Goals as goal
use Rattle.file_writing.proofs.write.Goals.{In_ok-n}

-- what an accepted check has shown
shown : (c : In_ok-n) → Writable quadratic c.in_ok-grid.grid.shape c.args.field.now c.args.wind.now c.args.file.now
shown c =
    let a = c.args in
    (write-shown quadratic c.in_ok-grid.grid.shape a.field.now a.wind.now a.file.now _ (sym c.in_ok-n.ensures)).0

pub write_parts-requires : goal.write_parts-requires
write_parts-requires c =
    let w = shown (goal.at.write_parts-requires c).In_ok-n in
    record { shape_in_bounds = w.out-room; shape_in_bounds_2 = w.field_room; shape_in_bounds_3 = w.wind-room }

pub returns-in_err-grid : goal.returns-in_err-grid
returns-in_err-grid c =
    let a = c.args in
    let e = write-2 a.shape a.field.now a.wind.now a.file.now c.in_err-grid.ensures.0 in
    (refused-2 a.shape c.from_residual.result _ c.from_residual.ensures.1 c.in_err-grid.ensures ∙ sym e, file-kept quadratic a.shape a.field.now a.wind.now a.file.now _ e)

pub returns-in_err-n : goal.returns-in_err-n
returns-in_err-n c =
    let a = c.args in
    let g = c.in_ok-grid.grid.shape in
    let r = c.from_residual-in_err-n in
    let e = sym c.in_err-n.ensures in
    on_shape a.field.now a.wind.now a.file.now c.in_ok-grid.ensures.1 (passed_on r.result _ r.ensures.1 ∙ sym e, file-kept quadratic g a.field.now a.wind.now a.file.now _ e)

pub returns : goal.returns
returns c =
    let a = c.args in
    let g = c.in_ok-grid.grid.shape in
    on_shape a.field.now a.wind.now a.file.now c.in_ok-grid.ensures.1 (
      c.in_ok-n.ensures,
      c.write_parts.ensures ∙ sym (file-written quadratic g a.field.now a.wind.now a.file.now (shown (goal.at.returns c).In_ok-n)),
    )
