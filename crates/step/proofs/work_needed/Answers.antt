use mathlib.Core.Path.{ap}
use Prim.Native.Nat.{◌*◌}
use native.Mathlib.Omega.{arith}
use Rattle.rules.proofs.ShapeLaws.{elements-le}
use Rattle.step.proofs.work_needed.Goals as goal

pub overflow_mul-result : goal.overflow_mul-result
overflow_mul-result c = record { fits = omega (arith, c.elements.ensures, elements-le c.args.grid.shape c.args.grid.admitted) }

pub returns : goal.returns
returns c = ap (λ n. 64 * n) c.elements.ensures
