use native.Mathlib.Omega.{arith}
use Rattle.rules.specs.Program.{tracer_lines}
use Rattle.text.proofs.AddsLaws.{then, wider}
use Rattle.text_lines.proofs.tracer_lines.Goals as goal

pub returns : goal.returns
unfolding tracer_lines
returns c =
    wider (then c.face_lines.ensures (then c.face_lines-2.ensures c.total_line.ensures)) _ (omega arith)
