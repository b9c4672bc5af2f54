-- All faces that look one way: the rows before the next are added, and the rows from it on are left.
use Rattle.std.proofs.Common.{◌≡◌, ◌≤◌, ◌+◌, ◌-◌, ◌*◌, take, drop}
use Rattle.whole.specs.Table.{blocks}
use Rattle.rules.specs.Program.{face_row}
use Rattle.text.specs.Adds.{Adds}
use Rattle.text_lines.proofs.TracerReport.face_lines.Given as goal

abbrev pub invariant-loop-j : goal.invariant-loop-j
invariant-loop-j l =
    let it = l.j-iterator in
    let g = l.self.grid.shape in
    (goal.iterator-loop-j).can_next it × (goal.iterator-loop-j).is_finite it × (it.iter.size ≡ g.nx) × (it.count ≤ g.ny)
    × (it.iter.rest.now ≡ drop (it.count * g.nx) (take (l.start + l.n - l.start) (drop l.start l.self.report.now)))
    × Adds (it.count * (g.nx * 96)) (blocks it.count (face_row g l.self.tracer l.way l.self.report.now)) l.initial.text l.text
