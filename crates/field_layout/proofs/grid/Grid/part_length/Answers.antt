use mathlib.Core.Path.{sym, ap, ◌∙◌}
use native.Mathlib.Omega.{arith}
use Prim.Native.Nat.{◌+◌}
use Rattle.field_layout.proofs.PlaceLaws.{part-is-more, part-le}
use Rattle.field_layout.proofs.grid.Grid.part_length.Goals as goal

pub overflow_add-result : goal.overflow_add-result
overflow_add-result c = let s = c.args.self in record { fits = omega (arith, c.elements_length.ensures, part-is-more s.shape, part-le s.shape s.admitted) }

pub returns : goal.returns
returns c = ap (λ n. n + 1) c.elements_length.ensures ∙ sym (part-is-more c.args.self.shape)
