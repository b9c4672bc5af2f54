use Rattle.std.proofs.Common.{◌∙◌, length, ◌/◌, arith}
use Rattle.file_sections.proofs.SectionLaws.{length-numbers}
use Rattle.file_sections.proofs.PartLaws.{plum-many, plu2-many, plum-summed, plu2-summed}
use Rattle.file_sections.proofs.search.tracer_sum.Goals as goal

pub search-requires : goal.search-requires
search-requires c = let l = c.args.section.now in omega (arith, length-numbers l (length l / 4), plum-many c.args.layout.mark c.args.layout.grid.shape l c.requires c.in-Plum.is)

pub compared_sum-requires : goal.compared_sum-requires
compared_sum-requires c = let l = c.args.section.now in length-numbers l (length l / 4) ∙ plu2-many c.args.layout.mark c.args.layout.grid.shape l c.requires c.in-Plu2.is

pub returns-in-Plum : goal.returns-in-Plum
returns-in-Plum c = c.search.ensures ∙ plum-summed c.args.layout.mark c.args.layout.grid.shape c.args.section.now c.requires c.in-Plum.is

pub returns-in-Plu2 : goal.returns-in-Plu2
returns-in-Plu2 c = c.compared_sum.ensures ∙ plu2-summed c.args.layout.mark c.args.layout.grid.shape c.args.section.now c.requires c.in-Plu2.is
