-- A row of faces: after i of them their lines are added.
use Prim.Native.Nat.{◌*◌}
use Rattle.whole.specs.Table.{blocks, at}
use Rattle.rules.specs.Program.{face_line}
use Rattle.text.specs.Adds.{Adds}
use Rattle.text_lines.proofs.face_row.Given as goal

abbrev pub invariant-loop-i : goal.invariant-loop-i
invariant-loop-i l = Adds (l.i * 96) (blocks l.i (λ i. face_line l.tracer l.way i l.j (at l.row i))) l.initial.text l.text
