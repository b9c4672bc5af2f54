-- The whole text: by the answer of reading the file it is the refusal, or the pages of the field that was read.
use mathlib.Core.Path.{sym, ap, subst, ◌∙◌}
use native.Mathlib.Omega.{arith}
use Rattle.rules.specs.Answers.{answered}
use Rattle.rules.specs.Field.{quadratic, element_length}
use Rattle.rules.specs.Program.{text_of, field_lent, wind_lent, printed_for, pages, map_output}
use Rattle.rules.proofs.ShapeLaws.{ranges}
use Rattle.file_layout.proofs.ReplyLaws.{Readable, read-shown}
use Rattle.text.proofs.AddedLaws.{same_bytes}
use Rattle.program_file.proofs.PrintedLaws.{file-read, field-taken, refused-printed, text-printed, text-given}
use Rattle.output_maps.specs.SoundField.{SoundField}
use Rattle.output_maps.proofs.PagesLaws.{read-sound, pages-fit}
use Rattle.output_maps.proofs.print.Goals as goal
use Rattle.output_maps.proofs.print.Goals.{In-Ok}

-- what the file that was read has shown
shown : (c : In-Ok) → Readable quadratic c.in-Ok.shape c.args.file.now field_lent wind_lent
unfolding field_lent element_length quadratic
shown c =
    read-shown quadratic c.in-Ok.shape c.args.file.now _ _ (file-read c.args.file.now _ _ c.in-Ok.shape (sym c.read.ensures.0 ∙ ap answered c.in-Ok.is))

-- its shape has a grid
pub invariant_of-sound : goal.invariant_of-sound
invariant_of-sound c = record { admitted = ranges c.in-Ok.shape (shown (goal.at.invariant_of-sound c).In-Ok).ranges }

-- the field that it left is sound
pub invariant_of-sound-in-Ok : goal.invariant_of-sound-in-Ok
unfolding field_lent element_length quadratic
invariant_of-sound-in-Ok c =
    let g = c.in-Ok.shape in
    let taken = c.read.ensures.1.0 ∙ field-taken c.args.file.now _ _ g (sym c.read.ensures.0 ∙ ap answered c.in-Ok.is) in
    record { sound = subst (SoundField g) (sym taken) (read-sound g c.args.file.now _ _ (shown (goal.at.invariant_of-sound-in-Ok c).In-Ok)) }

pub pages-requires : goal.pages-requires
pages-requires c =
    let s = shown (goal.at.pages-requires c).In-Ok in
    omega (arith, pages-fit c.in-Ok.shape (ranges c.in-Ok.shape s.ranges) s.wind-room, c.requires)

pub returns-in-Err : goal.returns-in-Err
unfolding map_output printed_for field_lent element_length quadratic
returns-in-Err c =
    let it = text-given (same_bytes (refused-printed c.args.file.now field_lent wind_lent pages _ (sym c.read.ensures.0 ∙ ap answered c.in-Err.is)) c.refusal.ensures) in record { value = it.0; prefix_len = it.1.0; out_after = it.1.1 }

pub returns-in-Ok : goal.returns-in-Ok
unfolding map_output printed_for field_lent element_length quadratic text_of pages
returns-in-Ok c =
    let it = text-given (same_bytes (text-printed c.args.file.now field_lent wind_lent pages c.in-Ok.shape _ _ (sym c.read.ensures.0 ∙ ap answered c.in-Ok.is) c.read.ensures.1.0 c.read.ensures.1.1) c.pages.ensures) in record { value = it.0; prefix_len = it.1.0; out_after = it.1.1 }
