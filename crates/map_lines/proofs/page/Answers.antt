use Rattle.std.proofs.Common.{rules}
use mathlib.Core.Path.{◌≡◌, ap}
use Prim.Native.Nat.{◌+◌, ◌*◌}
use native.Mathlib.Omega.{arith}
use lib.ListN.{length}
use Rattle.whole.specs.Table.{blocks}
use Rattle.rules.specs.Field.{quadratic, part}
use Rattle.rules.specs.Map.{block_count, block_text, sum_line, page_text, page_length}
use Rattle.text.specs.Adds.{Adds, HasRoom}
use Rattle.text.proofs.AddsLaws.{given_back, room, same_bytes, then, wider, blocks-none, block_room, block_more}
use Rattle.map_lines.proofs.PageLaws.{page-is}
use Rattle.map_lines.proofs.page.Goals as goal
use Rattle.map_lines.proofs.page.Goals.{After-block_count-b-end, After-loop-b}

-- the room for all blocks and the line of the sum, in the text as it begins
all-room : (c : After-block_count-b-end) → HasRoom (block_count c.args.grid.shape * ((c.args.grid.shape.ny + 1) * 74) + 74) c.new-text.result
all-room c = omega (arith, page-is c.args.grid.shape, c.requires.shape_in_bounds, c.new-text.ensures.empty, ap length c.new-text.ensures.bytes)

pub loop-b-init : goal.loop-b-init
loop-b-init c = (omega arith, blocks-none ((c.args.grid.shape.ny + 1) * 74) _ c.new-text.result (omega (arith, all-room (goal.at.loop-b-init c).After-block_count-b-end)))

pub block-requires-clause-room : goal.block-requires-clause-room
block-requires-clause-room c =
    block_room ((c.args.grid.shape.ny + 1) * 74) _ c.loop-b.invariant.1 (block_count c.args.grid.shape) (omega (arith, c.loop-b-test.true, c.block_count-b-end.ensures)) (omega (arith, all-room (goal.at.block-requires-clause-room c).After-block_count-b-end))

pub loop-b-preserved : goal.loop-b-preserved
loop-b-preserved c = (omega arith, block_more ((c.args.grid.shape.ny + 1) * 74) _ c.loop-b.invariant.1 c.block.ensures)

-- all blocks
all : (c : After-loop-b) → Adds (block_count c.args.grid.shape * ((c.args.grid.shape.ny + 1) * 74)) (blocks (block_count c.args.grid.shape) (block_text quadratic c.args.grid.shape (part quadratic c.args.grid.shape c.args.tracer c.args.field.now))) c.new-text.result c.loop-b.text
all c =
    let e : c.loop-b.b ≡ block_count c.args.grid.shape = omega (arith, c.block_count-b-end.ensures) in
    rw e at c.loop-b.invariant.1

pub sum_line-requires-clause-room : goal.sum_line-requires-clause-room
sum_line-requires-clause-room c = room (all (goal.at.sum_line-requires-clause-room c).After-loop-b) 74 (all-room (goal.at.sum_line-requires-clause-room c).After-block_count-b-end)

pub returns : goal.returns
unfolding page_text
returns c =
    let w = wider (then (all (goal.at.returns c).After-loop-b) (same_bytes (ap sum_line c.requires.sum_value) c.sum_line.ensures)) (page_length c.args.grid.shape) (omega (arith, page-is c.args.grid.shape)) in
    given_back w c.new-text.ensures.bytes c.new-text.ensures.empty (search (rules, w.same_buffer, c.new-text.ensures.same_buffer)) c.len.ensures
