-- The twelve bytes of the tail, in three stretches of four.
use mathlib.Core.Path.{◌≡◌, refl, ap}
use mathlib.Core.List.{◌++◌}
use lib.ListN.{drop}
use native.Mathlib.Omega.{arith}
use Rattle.rules.specs.declared.Mark.TheVariants.{Plu2}
use Rattle.rules.specs.Field.{quadratic}
use Rattle.rules.specs.FieldFile.{table_start}
use Rattle.file_layout.proofs.LayoutLaws.{length-is, length-le}
use Rattle.file_writing.proofs.WritingLaws.{of-layout, tail_written}
use Rattle.file_writing.proofs.write_tail.Goals as goal
use Rattle.file_writing.proofs.write_tail.Goals.{After-table_start}

-- the table's offset
offset-is : (c : After-table_start) → c.table_start.result ≡ table_start quadratic Plu2 c.args.grid.shape
offset-is c = of-layout (table_start quadratic) c.table_start.ensures c.layout.ensures.same_grid c.layout.ensures.mark

pub write_place-requires-clause-small : goal.write_place-requires-clause-small
write_place-requires-clause-small c =
    omega (arith, offset-is (goal.at.write_place-requires-clause-small c).After-table_start, length-le c.args.grid.shape Plu2 c.args.grid.admitted, length-is quadratic Plu2 c.args.grid.shape)

pub returns : goal.returns
returns c =
    let a = c.args in
    tail_written a.grid.shape a.out.now c.requires c.table_start.result _ _ c.write_place.new.to c.copy_from_slice-2.new.self (offset-is (goal.at.returns c).After-table_start)
    (ap (λ r. r ++ drop 4 a.out.now) c.copy_from_slice.ensures.after) c.write_place.ensures refl c.copy_from_slice-2.ensures.after
