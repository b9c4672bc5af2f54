-- A block: its first line, and the rows from the northmost down to row j.
use Prim.Native.Nat.{◌+◌, ◌*◌, ◌-◌}
use Rattle.whole.specs.Table.{blocks}
use Rattle.rules.specs.Field.{quadratic}
use Rattle.rules.specs.Map.{row_line}
use Rattle.text.specs.Adds.{Adds}
use Rattle.map_lines.specs.PageNumbers.{page_part}
use Rattle.map_lines.proofs.TracerPage.block.Given as goal

abbrev pub invariant-loop-j : goal.invariant-loop-j
invariant-loop-j l =
    let n = l.self.grid.shape.ny - l.j in
    Adds (n * 74) (blocks n (λ k. row_line quadratic l.self.grid.shape (page_part l.self) l.b (l.self.grid.shape.ny - (k + 1)))) l.initial.text l.text
