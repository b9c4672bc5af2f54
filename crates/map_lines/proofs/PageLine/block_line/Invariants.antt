-- A line: what comes first, after c turns c of its columns, and the newline.
use Prim.Native.Nat.{◌≤◌, ◌+◌, ◌*◌}
use Rattle.whole.specs.Table.{blocks}
use Rattle.rules.specs.Map.{column_text}
use Rattle.text.specs.Adds.{Adds}
use Rattle.map_lines.specs.PageNumbers.{numbers}
use Rattle.map_lines.proofs.PageLine.block_line.Given as goal

abbrev pub invariant-loop-c : goal.invariant-loop-c
invariant-loop-c l = (l.c ≤ 7) × Adds (l.c * 10) (blocks l.c (λ k. column_text l.self.page.grid.shape (numbers l.self) (l.west + k))) l.initial.text l.text
