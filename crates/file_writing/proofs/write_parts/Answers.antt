-- The file is cut into its parts, each is written, and they are the file of the field and the wind.
use Rattle.std.proofs.Common.{◌*◌, ◌+◌, sym, ap, drop, ◌∙◌, pos, arith}
use lib.Seq.{length-take-le}
use Rattle.whole.specs.Table.{overwrite}
use Rattle.rules.specs.declared.Mark.TheVariants.{Plu2}
use Rattle.rules.specs.FieldFile.{section_start, table_start}
use Rattle.rules.specs.Field.{quadratic, faces, field_length}
use Rattle.rules.specs.Bytes.{bytes32, bytes16}
use Rattle.file_layout.proofs.FileLaws.{Places, places, plu2-bytes, plu2-sections}
use Rattle.file_layout.proofs.LayoutLaws.{length-is}
use Rattle.file_writing.proofs.WritingLaws.{of-layout, front-bytes}
use Rattle.file_writing.proofs.FileWritten.{file-written}
use Rattle.file_writing.proofs.write_parts.Goals as goal
use Rattle.file_writing.proofs.write_parts.Goals.{After-section_start}

-- where the parts stand
here : (c : After-section_start) → Places quadratic Plu2 c.args.grid.shape c.section_start.result c.table_start.result
here c =
    let l = c.layout-layout.ensures in
    places quadratic Plu2 c.args.grid.shape c.section_start.result c.table_start.result (of-layout (λ m g. section_start quadratic m g 1) c.section_start.ensures l.same_grid l.mark)
    (of-layout (table_start quadratic) c.table_start.ensures l.same_grid l.mark)

pub split_at_mut-sections-requires : goal.split_at_mut-sections-requires
split_at_mut-sections-requires c =
    let l = c.layout-layout.ensures in
    omega (arith, of-layout (table_start quadratic) c.table_start.ensures l.same_grid l.mark, length-is quadratic Plu2 c.args.grid.shape, c.requires.shape_in_bounds)

pub split_at_mut-winds-requires : goal.split_at_mut-winds-requires
split_at_mut-winds-requires c = omega (arith, c.split_at_mut-sections.ensures.front_len, (here (goal.at.split_at_mut-winds-requires c).After-section_start).sections)

pub split_at_mut-table-requires : goal.split_at_mut-table-requires
split_at_mut-table-requires c = omega (arith, c.split_at_mut-sections.ensures.back_len, (here (goal.at.split_at_mut-table-requires c).After-section_start).whole, c.requires.shape_in_bounds)

pub write_all-requires : goal.write_all-requires
write_all-requires c = omega (arith, c.split_at_mut-winds.ensures.front_len, (here (goal.at.write_all-requires c).After-section_start).winds, c.faces.ensures, length-take-le c.faces.result c.args.wind.now (omega (arith, c.faces.ensures, c.requires.shape_in_bounds_3)))

pub write_all-requires-2 : goal.write_all-requires-2
write_all-requires-2 c = omega (arith, plu2-sections quadratic c.args.grid.shape, c.split_at_mut-winds.ensures.back_len, c.split_at_mut-sections.ensures.front_len, (here (goal.at.write_all-requires-2 c).After-section_start).sections, c.field_length.ensures, length-take-le c.field_length.result c.args.field.now (omega (arith, c.field_length.ensures, c.requires.shape_in_bounds_2)))

pub slice_bounds-write_tail-end : goal.slice_bounds-write_tail-end
slice_bounds-write_tail-end c = omega (arith, c.split_at_mut-table.ensures.back_len, c.split_at_mut-sections.ensures.back_len, (here (goal.at.slice_bounds-write_tail-end c).After-section_start).whole, c.requires.shape_in_bounds)

pub slice_bounds-write_tail-end-2 : goal.slice_bounds-write_tail-end-2
slice_bounds-write_tail-end-2 c = sym (length-take-le 12 c.split_at_mut-table.result.1.now (omega (arith, c.split_at_mut-table.ensures.back_len, c.split_at_mut-sections.ensures.back_len, (here (goal.at.slice_bounds-write_tail-end-2 c).After-section_start).whole, c.requires.shape_in_bounds)))

pub write_tail-requires : goal.write_tail-requires
write_tail-requires c = length-take-le 12 c.split_at_mut-table.result.1.now (omega (arith, c.split_at_mut-table.ensures.back_len, c.split_at_mut-sections.ensures.back_len, (here (goal.at.write_tail-requires c).After-section_start).whole, c.requires.shape_in_bounds))

pub returns : goal.returns
returns c =
    let a = c.args in
    let g = a.grid.shape in
    let w = front-bytes bytes16 (pos 0) c.faces.result (faces g) a.wind.now c.faces.ensures c.requires.shape_in_bounds_3 in
    let s = front-bytes bytes32 0 c.field_length.result (field_length quadratic g) a.field.now c.field_length.ensures c.requires.shape_in_bounds_2 in
    let cut = c.split_at_mut-sections.ensures in
    let left = c.split_at_mut-winds.ensures in
    let right = c.split_at_mut-table.ensures in
    file-written g a.file.now c.section_start.result c.table_start.result (here (goal.at.returns c).After-section_start) a.field.now a.wind.now
    c.split_at_mut-winds.result.0.now c.split_at_mut-winds.result.1.now c.split_at_mut-table.result.0.now c.split_at_mut-table.result.1.now c.write_all.new.section c.write_all-2.new.section c.write_table.new.table c.write_tail.new.out
    left.front_len (left.back_len ∙ cut.front_len) right.front_len (right.back ∙ ap (drop (4 * (g.tracers + 1))) cut.back) (c.write_all.ensures (pos 0) ∙ ap (λ b. overwrite 0 b c.split_at_mut-winds.result.0.now) w)
    (c.write_all-2.ensures 0 ∙ ap (λ b. overwrite 0 b c.split_at_mut-winds.result.1.now) (s ∙ sym (plu2-bytes quadratic g a.field.now))) c.write_table.ensures c.write_tail.ensures
