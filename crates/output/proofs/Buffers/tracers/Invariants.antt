-- All tracers: after s of them their lines stand behind the line of the grid, and the field is what their steps left.
use mathlib.Core.Path.{◌≡◌}
use Rattle.output.proofs.Laws.{TracersAdded}
use Rattle.output.proofs.Buffers.tracers.Given as goal

abbrev pub invariant-loop-s : goal.invariant-loop-s
invariant-loop-s l = (l.self.wind ≡ l.initial.self.wind) × TracersAdded l.grid.shape l.initial.self.wind l.s l.initial.self.field l.self.field l.initial.text l.text
