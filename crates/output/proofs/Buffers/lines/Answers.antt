-- The lines: what the reading of the file refuses is passed on, and else it is what the tracers' lines are.
use mathlib.Core.Path.{◌≡◌, sym}
use Prim.Native.Nat.{◌≤◌}
use native.Mathlib.Omega.{arith}
use Rattle.rules.specs.Answers.{accepted}
use Rattle.rules.specs.Field.{quadratic, faces, Admitted}
use Rattle.rules.proofs.ShapeLaws.{ranges}
use Rattle.rules.specs.Program.{file_reply, steps}
use Rattle.file_layout.proofs.ReplyLaws.{Readable, read-shown}
use Rattle.program_file.proofs.PrintedLaws.{file-read, refused-printed, text-printed}
use Rattle.output.proofs.TextLaws.{text-fits, lines_of, passed-line}
use Rattle.output.proofs.Buffers.lines.Goals as goal
use Rattle.output.proofs.Buffers.lines.Goals.{In_ok-shape}

pub returns-in_err-shape : goal.returns-in_err-shape
returns-in_err-shape c =
    passed-line _ _ c.from_residual.result _ c.from_residual.ensures.1 (refused-printed c.args.file.now c.args.self.now.field c.args.self.now.wind steps _ (sym c.in_err-shape.ensures.0))

-- the file was read: its shape is admitted, and has no more faces than the lent winds
found : (c : In_ok-shape) → let a = c.args in file_reply a.file.now a.self.now.field a.self.now.wind ≡ accepted c.in_ok-shape.shape
found c = sym c.in_ok-shape.ensures.0

shown : (c : In_ok-shape) → let a = c.args in Readable quadratic c.in_ok-shape.shape a.file.now a.self.now.field a.self.now.wind
shown c =
    let a = c.args in
    let g = c.in_ok-shape.shape in
    read-shown quadratic g a.file.now a.self.now.field a.self.now.wind (file-read a.file.now a.self.now.field a.self.now.wind g (found c))

few : (c : In_ok-shape) → faces c.in_ok-shape.shape ≤ 256
few c = omega (arith, (shown c).wind-room)

admits : (c : In_ok-shape) → Admitted c.in_ok-shape.shape
admits c = ranges c.in_ok-shape.shape (shown c).ranges

pub invariant_of-tracers : goal.invariant_of-tracers
invariant_of-tracers c = record { admitted = admits (goal.at.invariant_of-tracers c).In_ok-shape }

pub tracers-requires : goal.tracers-requires
tracers-requires c =
    let p = (goal.at.tracers-requires c).In_ok-shape in
    omega (arith, text-fits c.in_ok-shape.shape (admits p) (few p), c.requires)

pub returns : goal.returns
returns c =
    let a = c.args in
    let g = c.in_ok-shape.shape in
    let p = (goal.at.returns c).In_ok-shape in
    let e = text-printed a.file.now a.self.now.field a.self.now.wind steps g _ _ (found p) c.read.ensures.1.0 c.read.ensures.1.1 in
    lines_of g _ _ _ _ _ (text-fits g (admits p) (few p)) e c.tracers.result c.tracers.ensures
