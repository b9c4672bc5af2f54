use Rattle.rules.specs.Program.{grid_line}
use Rattle.text_lines.proofs.grid_line.Goals as goal

pub returns : goal.returns
unfolding grid_line
returns c = c.numbers_line.ensures
