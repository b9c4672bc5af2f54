use mathlib.Core.Path.{sym, ◌∙◌}
use Rattle.rules.specs.Field.{quadratic}
use Rattle.file_layout.proofs.LayoutLaws.{table_is}
use Rattle.file_layout.proofs.Layout.table_start.Goals as goal

pub returns : goal.returns
returns c = c.section_start.ensures ∙ sym (table_is quadratic c.args.self.mark c.args.self.grid.shape)
