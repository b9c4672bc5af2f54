use mathlib.Core.Path.{◌≡◌}
use Prim.Native.Nat.{◌≤◌}
use lib.ListN.{length}
use Rattle.whole.specs.Table.{blocks, overwrite}
use Rattle.rules.specs.declared.Mark.TheVariants.{Plu2}
use Rattle.rules.specs.Field.{quadratic}
use Rattle.rules.specs.Bytes.{bytes32}
use Rattle.rules.specs.FieldFile.{section_start}
use Rattle.file_writing.proofs.write_table.Given as goal

abbrev pub invariant-loop-i : goal.invariant-loop-i
invariant-loop-i l = (l.i ≤ l.n) × (length l.table ≡ length l.initial.table) × (l.table ≡ overwrite 0 (blocks l.i (λ k. bytes32 (section_start quadratic Plu2 l.fn.grid.shape k))) l.initial.table)
