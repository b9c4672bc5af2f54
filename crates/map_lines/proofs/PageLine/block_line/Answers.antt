use mathlib.Core.Path.{◌≡◌}
use native.Mathlib.Omega.{arith}
use Rattle.rules.specs.Map.{block_line}
use Rattle.rules.proofs.MapLaws.{block-starts}
use Rattle.text.proofs.AddsLaws.{room, then, blocks-none, block_more}
use Rattle.map_lines.proofs.PageLine.block_line.Goals as goal

pub overflow_mul-west : goal.overflow_mul-west
overflow_mul-west c =
    record { fits = omega (arith, block-starts c.args.self.now.page.grid.shape c.args.b c.requires.b_bound, c.args.self.now.page.grid.admitted.nx-small) }

pub loop-c-init : goal.loop-c-init
loop-c-init c =
    (omega arith, blocks-none 10 _ c.first.new.text (room c.first.ensures 0 (omega (arith, c.requires.room))))

pub overflow_add-west : goal.overflow_add-west
overflow_add-west c =
    record { fits = omega (arith, block-starts c.args.self.now.page.grid.shape c.args.b c.requires.b_bound, c.args.self.now.page.grid.admitted.nx-small) }

pub loop-c-preserved : goal.loop-c-preserved
loop-c-preserved c =
    (omega arith, block_more 10 _ c.loop-c.invariant.1 c.column.ensures)

pub returns : goal.returns
unfolding block_line
returns c =
    let e : c.loop-c.c ≡ 7 = omega arith in
    then c.first.ensures (then (rw e at c.loop-c.invariant.1) c.newline.ensures)
