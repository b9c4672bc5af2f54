use mathlib.Core.Path.{ap}
use mir.Facts.{to_z-of_z}
use Rattle.rules.specs.Text.{signed}
use Rattle.rules.specs.Program.{face_line}
use Rattle.text.proofs.AddsLaws.{same_bytes, then}
use Rattle.text_lines.proofs.face_line.Goals as goal

pub returns : goal.returns
unfolding face_line
returns c =
    then c.put.ensures (then c.number.ensures (then c.way_word.ensures (then c.number-2.ensures (then c.put-2.ensures (then c.number-3.ensures (then c.put-3.ensures (then (same_bytes (ap signed (to_z-of_z c.ranges.flux)) c.signed.ensures) c.newline.ensures)))))))
