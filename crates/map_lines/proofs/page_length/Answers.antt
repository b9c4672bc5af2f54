use mathlib.Core.Path.{ap}
use Prim.Native.Nat.{◌+◌, ◌*◌}
use native.Mathlib.Omega.{arith}
use Rattle.rules.specs.Map.{page_length}
use Rattle.map_lines.proofs.PageLaws.{lines-above}
use Rattle.map_lines.proofs.page_length.Goals as goal

pub overflow_mul-result : goal.overflow_mul-result
overflow_mul-result c = record { fits = omega (arith, lines-above c.args.grid.shape c.args.grid.admitted _ c.block_count.ensures) }

pub overflow_add-result-2 : goal.overflow_add-result-2
overflow_add-result-2 c = record { fits = omega (arith, lines-above c.args.grid.shape c.args.grid.admitted _ c.block_count.ensures) }

pub overflow_mul-result-2 : goal.overflow_mul-result-2
overflow_mul-result-2 c = record { fits = omega (arith, lines-above c.args.grid.shape c.args.grid.admitted _ c.block_count.ensures) }

pub returns : goal.returns
unfolding page_length
returns c = ap (λ n. (n * (c.args.grid.shape.ny + 1) + 1) * 74) c.block_count.ensures
