use mathlib.Core.Path.{◌≡◌, ap}
use native.Mathlib.Omega.{arith}
use lib.ListN.{length}
use mir.Facts.{to_z-of_z}
use mir.Syntax.{w32}
use Rattle.rules.specs.Program.{face_line}
use Rattle.text.proofs.AddsLaws.{same_bytes, blocks-none, block_more}
use Rattle.text_lines.proofs.face_row.Goals as goal

pub loop-i-init : goal.loop-i-init
loop-i-init c = blocks-none 96 _ c.args.text.now (omega (arith, c.requires))

pub loop-i-preserved : goal.loop-i-preserved
loop-i-preserved c =
    block_more 96 _ c.loop-i.invariant (same_bytes (ap (face_line c.args.tracer c.args.way c.loop-i.i c.args.j) (to_z-of_z {w = w32} (record { sfits = omega arith }))) c.face_line.ensures)

pub returns : goal.returns
returns c =
    let l = c.loop-i in
    let e : l.i ≡ length c.args.row.now = omega (arith, l.auto.i-end, c.loop-i-test.false) in
    rw e at l.invariant
