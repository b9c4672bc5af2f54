-- What comes before the columns, by the line's case: three blanks, or the row's number.
use mathlib.Core.Path.{◌≡◌, sym, ap}
use Prim.Native.Nat.{◌<◌}
use native.Mathlib.Omega.{arith}
use lib.ListN.{length}
use Rattle.rules.specs.Text.{decimal_by, right_aligned}
use Rattle.rules.proofs.TextLaws.{characters-number}
use Rattle.text.proofs.AddsLaws.{same_bytes, wider}
use Rattle.map_lines.specs.PageLines.{line_first}
use Rattle.map_lines.proofs.PageLaws.{row-there}
use Rattle.map_lines.proofs.PageLine.first.Goals as goal
use Rattle.map_lines.proofs.PageLine.first.Goals.{In-Row}

-- the row's number takes three bytes
three : (c : In-Row) → length (right_aligned 3 (decimal_by 19 c.in-Row.j)) ≡ 3
three c =
    let l = c.args.self.now in
    let there : c.in-Row.j < l.page.grid.shape.ny = row-there l.page.grid.shape l.line c.in-Row.is l.there in
    (characters-number 3 2 c.in-Row.j (omega arith) (omega arith) (omega (arith, there, l.page.grid.admitted.ny-small))).long

pub right_aligned-requires : goal.right_aligned-requires
right_aligned-requires c = omega (arith, three (goal.at.right_aligned-requires c).In-Row, c.requires)

pub returns-in-Row : goal.returns-in-Row
returns-in-Row c =
    same_bytes (sym (ap line_first c.in-Row.is)) (wider c.right_aligned.ensures 3 (omega (arith, three (goal.at.returns-in-Row c).In-Row)))
