use mathlib.Core.Path.{◌≡◌}
use native.Mathlib.Omega.{arith}
use Prim.Native.Nat.{◌+◌, ◌*◌}
use Rattle.rules.specs.Field.{quadratic}
use Rattle.rules.specs.FieldFile.{file_length}
use Rattle.file_layout.proofs.LayoutLaws.{length-is, length-le}
use Rattle.file_layout.proofs.Layout.file_length.Goals as goal
use Rattle.file_layout.proofs.Layout.file_length.Goals.{After-table_start}

-- the file's length, by the table's start
sum_is : (c : After-table_start) → c.table_start.result + 4 * (c.args.self.grid.shape.tracers + 1) + 12 ≡ file_length quadratic c.args.self.mark c.args.self.grid.shape
sum_is c = omega (arith, c.table_start.ensures, length-is quadratic c.args.self.mark c.args.self.grid.shape)

pub overflow_add-result-2 : goal.overflow_add-result-2
overflow_add-result-2 c = record { fits = omega (arith, sum_is (goal.at.overflow_add-result-2 c).After-table_start, length-le c.args.self.grid.shape c.args.self.mark c.args.self.grid.admitted) }

pub overflow_add-result-3 : goal.overflow_add-result-3
overflow_add-result-3 c = record { fits = omega (arith, sum_is (goal.at.overflow_add-result-3 c).After-table_start, length-le c.args.self.grid.shape c.args.self.mark c.args.self.grid.admitted) }

pub returns : goal.returns
returns c = sum_is (goal.at.returns c).After-table_start
