use mathlib.Core.Path.{sym, ap, ◌∙◌}
use native.Mathlib.Omega.{arith}
use Prim.Native.Nat.{◌*◌}
use Rattle.field_layout.proofs.PlaceLaws.{field_is, field-le}
use Rattle.field_layout.proofs.grid.Grid.field_length.Goals as goal

pub overflow_mul-result : goal.overflow_mul-result
overflow_mul-result c = let s = c.args.self.shape in rw c.part_length.ensures (record { fits = omega (arith, field-le s c.args.self.admitted) })

pub returns : goal.returns
returns c = let s = c.args.self.shape in ap (λ n. s.tracers * n) c.part_length.ensures ∙ sym (field_is s)
