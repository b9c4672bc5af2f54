-- A page: after b turns the first b blocks; then the line of the sum.
use Prim.Native.Nat.{◌≤◌, ◌+◌, ◌*◌}
use Rattle.whole.specs.Table.{blocks}
use Rattle.rules.specs.Field.{quadratic, part}
use Rattle.rules.specs.Map.{block_text}
use Rattle.text.specs.Adds.{Adds}
use Rattle.map_lines.proofs.page.Given as goal

abbrev pub invariant-loop-b : goal.invariant-loop-b
invariant-loop-b l = (l.b ≤ l.b-end) × Adds (l.b * ((l.fn.grid.shape.ny + 1) * 74)) (blocks l.b (block_text quadratic l.fn.grid.shape (part quadratic l.fn.grid.shape l.tracer l.field))) l.initial.text l.text
