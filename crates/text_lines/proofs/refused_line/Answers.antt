use mathlib.Core.Path.{ap}
use Rattle.rules.specs.Text.{decimal}
use Rattle.rules.specs.Program.{refused_line}
use Rattle.text.proofs.AddsLaws.{same_bytes, then}
use Rattle.text_lines.proofs.refused_line.Goals as goal

pub returns : goal.returns
unfolding refused_line
returns c =
    then c.put.ensures (then (same_bytes (ap decimal c.from.ensures) c.number.ensures) c.newline.ensures)
