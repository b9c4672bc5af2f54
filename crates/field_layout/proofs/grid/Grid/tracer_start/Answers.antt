use native.Mathlib.Omega.{arith}
use Rattle.field_layout.proofs.PlaceLaws.{start-le}
use Rattle.field_layout.proofs.grid.Grid.tracer_start.Goals as goal

pub overflow_mul-result : goal.overflow_mul-result
overflow_mul-result c = let s = c.args.self.shape in rw c.part_length.ensures (record { fits = omega (arith, start-le s c.args.tracer c.args.self.admitted c.requires) })
