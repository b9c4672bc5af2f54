use mathlib.Core.Path.{◌≡◌}
use native.Mathlib.Omega.{arith}
use lib.ListN.{length}
use Rattle.rules.specs.Text.{decimal_by, right_aligned}
use Rattle.rules.specs.Map.{sum_line}
use Rattle.rules.proofs.TextLaws.{characters-number}
use Rattle.text.proofs.AddsLaws.{room, then, wider}
use Rattle.map_lines.proofs.sum_line.Goals as goal
use Rattle.map_lines.proofs.sum_line.Goals.{Start}

-- the sum takes 70 bytes
seventy : (c : Start) → length (right_aligned 70 (decimal_by 19 c.args.sum)) ≡ 70
seventy c = (characters-number 70 8 c.args.sum (omega arith) (omega arith) (omega (arith, c.requires.sum_le_limit))).long

pub right_aligned-requires : goal.right_aligned-requires
right_aligned-requires c =
    omega (arith, seventy (goal.at.right_aligned-requires c).Start, room c.put.ensures 71 c.requires.room)

pub newline-requires : goal.newline-requires
newline-requires c =
    room (wider c.right_aligned.ensures 70 (omega (arith, seventy (goal.at.newline-requires c).Start))) 1 (room c.put.ensures 71 c.requires.room)

pub returns : goal.returns
unfolding sum_line
returns c =
    then c.put.ensures (then (wider c.right_aligned.ensures 70 (omega (arith, seventy (goal.at.returns c).Start))) c.newline.ensures)
