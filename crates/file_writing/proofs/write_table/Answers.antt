use mathlib.Core.Path.{◌≡◌, ◌∙◌}
use borrow.Author.Rules.{rules}
use native.Mathlib.Omega.{arith}
use Prim.Native.Nat.{◌+◌, ◌*◌}
use Rattle.whole.specs.Table.{blocks, overwrite}
use Rattle.rules.specs.declared.Mark.TheVariants.{Plu2}
use Rattle.rules.specs.Field.{quadratic}
use Rattle.rules.specs.FieldFile.{section_start}
use Rattle.file_layout.proofs.LayoutLaws.{section-le}
use Rattle.file_writing.proofs.WritingLaws.{of-layout, next-offset}
use Rattle.file_numbers.proofs.PlaceLaws.{write-at}
use Rattle.file_writing.proofs.write_table.Goals as goal
use Rattle.file_writing.proofs.write_table.Goals.{After-section_start}

pub loop-i-init : goal.loop-i-init
unfolding overwrite blocks
loop-i-init c = search rules

-- the offset that is written
offset-is : (c : After-section_start) → c.section_start.result ≡ section_start quadratic Plu2 c.args.grid.shape c.loop-i.i
offset-is c = of-layout (λ m g. section_start quadratic m g c.loop-i.i) c.section_start.ensures c.layout-layout.ensures.same_grid c.layout-layout.ensures.mark

pub write_place-requires-clause-small : goal.write_place-requires-clause-small
write_place-requires-clause-small c = omega (arith, offset-is (goal.at.write_place-requires-clause-small c).After-section_start, section-le c.args.grid.shape Plu2 c.loop-i.i c.args.grid.admitted (omega arith))

pub loop-i-preserved : goal.loop-i-preserved
loop-i-preserved c =
    let l = c.loop-i in
    let x = section_start quadratic Plu2 c.args.grid.shape in (
      omega arith,
      omega arith,
      write-at (4 * l.i) _ l.table _ c.write_place.ensures
          ∙ next-offset x c.args.table.now l.i c.section_start.result l.table (offset-is (goal.at.loop-i-preserved c).After-section_start) l.invariant.2 (omega (arith, c.requires)),
    )

pub returns : goal.returns
returns c =
    let e : c.loop-i.i ≡ c.args.grid.shape.tracers + 1 = omega arith in
    rw e at c.loop-i.invariant.2
