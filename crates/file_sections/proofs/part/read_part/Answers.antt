-- The search of a sound section answers its sum.
use Rattle.std.proofs.Common.{sym, ap, ◌∙◌}
use Rattle.rules.specs.Answers.{answered}
use Rattle.file_sections.specs.Numbers.{part_of_section}
use Rattle.file_sections.proofs.PartLaws.{summed-is, summed-never}
use Rattle.file_sections.proofs.part.read_part.Goals as goal

pub unreachable-requires : goal.unreachable-requires
unreachable-requires c =
    let a = c.args.layout in
    summed-never a.grid.shape (part_of_section a.mark a.grid.shape c.args.section.now) c.requires.section_sound _ (sym (ap answered c.in_default.is) ∙ c.tracer_sum.ensures)

pub read_summed-requires-clause-section_sum : goal.read_summed-requires-clause-section_sum
read_summed-requires-clause-section_sum c =
    let a = c.args.layout in
    summed-is a.grid.shape (part_of_section a.mark a.grid.shape c.args.section.now) c.requires.section_sound c.in-Ok.sum (sym (ap answered c.in-Ok.is) ∙ c.tracer_sum.ensures)
