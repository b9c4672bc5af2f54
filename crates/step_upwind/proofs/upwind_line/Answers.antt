use Rattle.std.proofs.Common.{arith, ◌∙◌}
use mir.Syntax.{w64}
use mir.Val.{to_z, of_z}
use Rattle.rules.proofs.GridLaws.{behind-lt, ahead-lt}
use Rattle.rules.proofs.ShapeLaws.{elements-le}
use Rattle.step_upwind.specs.Upwind.{upwind_start}
use Rattle.step_upwind.proofs.TendencyLaws.{line-room}
use Rattle.step_upwind.proofs.upwind_line.Goals as goal

pub upwind_start-requires-clause-behind_lt_most_elements : goal.upwind_start-requires-clause-behind_lt_most_elements
upwind_start-requires-clause-behind_lt_most_elements c = let x = c.args.face in let h = x.grid.admitted in
    omega (arith, c.ends-behind.ensures.behind, behind-lt x.grid.shape h.nx-above h.ny-above x.index x.inside, elements-le x.grid.shape h)

pub upwind_start-requires-clause-ahead_lt_most_elements : goal.upwind_start-requires-clause-ahead_lt_most_elements
upwind_start-requires-clause-ahead_lt_most_elements c = let x = c.args.face in let h = x.grid.admitted in
    omega (arith, c.ends-behind.ensures.ahead, ahead-lt x.grid.shape h.nx-above h.ny-above x.index x.inside, elements-le x.grid.shape h)

pub returns-clause-room : goal.returns-clause-room
returns-clause-room c =
    let b = c.ends-behind.ensures in
    let l = c.line_behind-start.ensures in
    let z = to_z w64 (of_z w64 c.args.c) in
    omega (arith, c.upwind_start.ensures ∙ (λ i. upwind_start z (b.behind i) (b.ahead i) (l.start i)), l.stride, line-room c.args.face z)
