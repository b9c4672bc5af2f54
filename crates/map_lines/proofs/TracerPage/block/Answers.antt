use mathlib.Core.Path.{◌≡◌}
use Prim.Native.Nat.{◌+◌, ◌*◌, ◌-◌}
use native.Mathlib.Omega.{arith}
use Rattle.rules.specs.Map.{header_line, row_line, block_text}
use Rattle.text.proofs.AddsLaws.{room, then, wider, blocks-none, block_more}
use Rattle.map_lines.proofs.TracerPage.block.Goals as goal

pub loop-j-init : goal.loop-j-init
loop-j-init c =
    let ny = c.args.self.now.grid.shape.ny in
    let e : 0 ≡ ny - ny = omega arith in
    rw (← e) (blocks-none 74 _ c.block_line.new.text (room c.block_line.ensures 0 (omega (arith, c.requires.room))))

pub loop-j-preserved : goal.loop-j-preserved
unfolding row_line
loop-j-preserved c =
    let l = c.loop-j in
    let ny = c.args.self.now.grid.shape.ny in
    let next : ny - l.j + 1 ≡ ny - (l.j - 1) = omega arith in
    let row : l.j - 1 ≡ ny - (ny - l.j + 1) = omega arith in
    rw (← next) (block_more 74 _ l.invariant (rw row at c.block_line-in-loop-j.ensures))

pub returns : goal.returns
unfolding block_text header_line
returns c =
    let l = c.loop-j in
    let ny = c.args.self.now.grid.shape.ny in
    let e : ny - l.j ≡ ny = omega arith in
    wider (then c.block_line.ensures (rw e at l.invariant)) ((ny + 1) * 74) (omega arith)
