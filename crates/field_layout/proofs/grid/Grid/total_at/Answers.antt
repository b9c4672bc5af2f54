use mathlib.Core.Path.{ap₂}
use native.Mathlib.Omega.{arith}
use Prim.Native.Nat.{◌+◌}
use Rattle.field_layout.proofs.PlaceLaws.{total-room, field_is, field-le}
use Rattle.field_layout.proofs.grid.Grid.total_at.Goals as goal

pub overflow_add-result : goal.overflow_add-result
overflow_add-result c =
    let a = c.args in
    record { fits = omega (arith, c.tracer_start.ensures, c.elements_length.ensures, total-room a.self.shape a.tracer c.requires, field_is a.self.shape, field-le a.self.shape a.self.admitted) }

pub returns : goal.returns
returns c =
    let a = c.args in
    let at = ap₂ ◌+◌ c.tracer_start.ensures c.elements_length.ensures in
    record { place = at; room = omega (arith, at, total-room a.self.shape a.tracer c.requires) }
