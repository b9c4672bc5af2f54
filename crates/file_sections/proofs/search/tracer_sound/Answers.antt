use Rattle.std.proofs.Common.{◌∙◌}
use Rattle.field_search.proofs.SearchLaws.{is-sound}
use Rattle.file_sections.specs.Numbers.{part_of_section}
use Rattle.file_sections.proofs.search.tracer_sound.Goals as goal

pub returns : goal.returns
returns c =
    let a = c.args.layout in
    c.is_ok.ensures.value ∙ is-sound a.grid.shape (part_of_section a.mark a.grid.shape c.args.section.now) c.tracer_sum.result c.tracer_sum.ensures
