use mathlib.Core.Path.{◌≡◌, refl, ◌∙◌}
use native.Mathlib.Omega.{arith}
use Rattle.text.proofs.AddsLaws.{room}
use Rattle.output.proofs.Laws.{tracers-none, tracers-next, all-refused, all-added}
use Rattle.output.proofs.Buffers.tracers.Goals as goal

pub loop-s-init : goal.loop-s-init
loop-s-init c =
    let b = c.args.self.now in
    (refl, tracers-none c.args.grid.shape b.wind b.field c.grid_line.new.text (room c.grid_line.ensures 0 (omega (arith, c.requires))))

pub returns-in_err-tracer : goal.returns-in_err-tracer
returns-in_err-tracer c =
    let b = c.args.self.now in
    all-refused c.args.grid.shape b.wind b.field _ _ _ _ c.loop-s.invariant.1 c.loop-s-test.true c.from_residual.result _ c.from_residual.ensures.1 (rw c.loop-s.invariant.0 at c.in_err-tracer.ensures.lines)

pub loop-s-preserved : goal.loop-s-preserved
loop-s-preserved c =
    let b = c.args.self.now in
    (c.in_ok-tracer.ensures.same_wind ∙ c.loop-s.invariant.0, tracers-next c.args.grid.shape b.wind b.field c.loop-s.invariant.1 (rw c.loop-s.invariant.0 at c.in_ok-tracer.ensures.lines))

pub returns : goal.returns
returns c =
    let l = c.loop-s in
    let b = c.args.self.now in
    let e : l.s ≡ c.args.grid.shape.tracers = omega (arith, l.auto.s-end, c.loop-s-test.false) in
    all-added c.args.grid.shape b.wind c.args.grid.shape.tracers b.field l.self.field c.grid_line.ensures (rw e at l.invariant.1)
