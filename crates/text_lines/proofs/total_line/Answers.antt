use Rattle.rules.specs.Program.{total_line}
use Rattle.text_lines.proofs.total_line.Goals as goal

pub returns : goal.returns
unfolding total_line
returns c = c.numbers_line.ensures
