use Rattle.std.proofs.Common.{◌≡◌, sym, ◌∙◌, ◌≤◌, length, arith}
use lib.Seq.{length-take-le}
use Rattle.rules.specs.Field.{quadratic, total}
use Rattle.file_layout.proofs.LayoutLaws.{section-within}
use Rattle.file_sections.proofs.PartLaws.{read-long, elements_of, total-held, total-fits, plum-read, plu2-read, not-plum}
use Rattle.file_sections.proofs.part.read_summed.Goals as goal
use Rattle.file_sections.proofs.part.read_summed.Goals.{After-section_length-n, In-Plum}

-- the section's numbers have room in the part
room : (c : After-section_length-n) → c.section_length-n.result ≤ length c.args.part.now
room c = omega (arith, c.section_length-n.ensures, c.requires.part_len, (section-within c.args.layout.grid.shape c.args.layout.mark c.args.layout.grid.admitted).1)

pub slice_bounds-read_all-end : goal.slice_bounds-read_all-end
slice_bounds-read_all-end c = room (goal.at.slice_bounds-read_all-end c).After-section_length-n

pub slice_bounds-read_all-end-2 : goal.slice_bounds-read_all-end-2
slice_bounds-read_all-end-2 c = sym (length-take-le c.section_length-n.result c.args.part.now (room (goal.at.slice_bounds-read_all-end-2 c).After-section_length-n))

-- the sum that is lent is what the elements hold
lent : (c : In-Plum) → c.args.sum ≡ total quadratic c.args.layout.grid.shape (elements_of c.args.layout.grid.shape c.args.section.now)
lent c = c.requires.section_sum ∙ total-held c.args.layout.grid.shape c.args.section.now c.args.layout.mark c.in-Plum.is

pub overflow_cast-part : goal.overflow_cast-part
overflow_cast-part c =
    let g = c.args.layout.grid.shape in
    record { fits = omega (arith, lent (goal.at.overflow_cast-part c).In-Plum, total-fits c.args.layout.mark g c.args.section.now c.args.part.now _ _ c.section_length-n.ensures c.requires.part_len c.read_all.ensures c.in-Plum.is c.requires.section_sound) }

pub bounds-part-n : goal.bounds-part-n
bounds-part-n c = omega (arith, read-long c.args.layout.mark c.args.layout.grid.shape c.args.section.now c.args.part.now _ _ c.section_length-n.ensures c.requires.part_len c.read_all.ensures c.in-Plum.is)

pub returns-in-Plum : goal.returns-in-Plum
returns-in-Plum c =
    plum-read c.args.layout.mark c.args.layout.grid.shape c.args.section.now c.args.part.now _ _ c.section_length-n.ensures c.requires.part_len c.read_all.ensures c.in-Plum.is
    _ (lent (goal.at.returns-in-Plum c).In-Plum)

pub returns-in_default : goal.returns-in_default
returns-in_default c =
    let a = c.args.layout in
    plu2-read a.mark a.grid.shape c.args.section.now c.args.part.now _ _ c.section_length-n.ensures c.requires.part_len c.read_all.ensures (not-plum a.mark c.in_default.not-Plum)
