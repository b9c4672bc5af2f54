use native.Mathlib.Omega.{arith}
use Rattle.rules.specs.Program.{numbers_line}
use Rattle.text.proofs.AddsLaws.{then, wider}
use Rattle.text_lines.proofs.numbers_line.Goals as goal

pub returns : goal.returns
unfolding numbers_line
returns c =
    wider (then c.put.ensures (then c.number.ensures (then c.put-2.ensures (then c.number-2.ensures (then c.put-3.ensures (then c.number-3.ensures c.newline.ensures)))))) _ (omega arith)
