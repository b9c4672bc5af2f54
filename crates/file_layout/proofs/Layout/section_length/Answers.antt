use mathlib.Core.Path.{sym, ap, ◌∙◌}
use Rattle.rules.specs.Field.{quadratic}
use Rattle.rules.specs.FieldFile.{section_length}
use Rattle.file_layout.proofs.LayoutLaws.{plum-length, plu2-length}
use Rattle.file_layout.proofs.Layout.section_length.Goals as goal

pub returns-in-Plum : goal.returns-in-Plum
returns-in-Plum c = let g = c.args.self.grid.shape in c.elements_length.ensures ∙ sym (ap (λ m. section_length quadratic m g) c.in-Plum.is ∙ plum-length quadratic g)

pub returns-in-Plu2 : goal.returns-in-Plu2
returns-in-Plu2 c = let g = c.args.self.grid.shape in c.part_length.ensures ∙ sym (ap (λ m. section_length quadratic m g) c.in-Plu2.is ∙ plu2-length quadratic g)
