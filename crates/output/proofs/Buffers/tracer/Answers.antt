-- One tracer: a refused step or reading is the definition's refusal, and else its lines are added, printed from the report buffer.
use mathlib.Core.Path.{sym}
use native.Mathlib.Omega.{arith}
use Rattle.text.proofs.AddsLaws.{same_bytes}
use Rattle.output.proofs.Laws.{passed, step-refused, reports, total-refused, lines-accepted, lines_are}
use Rattle.output.proofs.Buffers.tracer.Goals as goal

pub returns-in_err-clipped-clause-lines : goal.returns-in_err-clipped-clause-lines
returns-in_err-clipped-clause-lines c =
    let b = c.args.self.now in
    passed _ _ _ _ _ c.from_residual.result _ c.from_residual.ensures.1 (step-refused c.args.grid.shape b.wind c.args.tracer b.field _ _ (omega arith) (omega arith) _ (sym c.in_err-clipped.ensures.gives.0))

pub tracer_lines-requires-clause-shape_in_bounds : goal.tracer_lines-requires-clause-shape_in_bounds
tracer_lines-requires-clause-shape_in_bounds c =
    let b = c.args.self.now in
    omega (arith, reports c.args.grid.shape b.wind c.args.tracer b.field _ _ (omega arith) (omega arith) c.in_ok-clipped.clipped (sym c.in_ok-clipped.ensures.gives.0), c.step.auto.report)

pub returns-in_err-total-clause-lines : goal.returns-in_err-total-clause-lines
returns-in_err-total-clause-lines c =
    let b = c.args.self.now in
    passed _ _ _ _ _ c.from_residual-in_err-total.result _ c.from_residual-in_err-total.ensures.1
    (total-refused c.args.grid.shape b.wind c.args.tracer b.field _ _ (omega arith) (omega arith) c.in_ok-clipped.clipped (sym c.in_ok-clipped.ensures.gives.0) _ _ c.step.ensures.gives.1.0 (sym c.in_err-total.ensures))

pub returns-clause-lines : goal.returns-clause-lines
returns-clause-lines c =
    let b = c.args.self.now in
    let clipped = c.in_ok-clipped.clipped in
    let e = sym c.in_ok-clipped.ensures.gives.0 in
    let total = c.in_ok-total.total in
    let q = sym c.in_ok-total.ensures in
    let room = reports c.args.grid.shape b.wind c.args.tracer b.field _ _ (omega arith) (omega arith) clipped e in
    record {
      text = _;
      is = lines-accepted c.args.grid.shape b.wind c.args.tracer b.field _ _ (omega arith) (omega arith) clipped e total _ c.step.ensures.gives.1.0 q;
      added = same_bytes (lines_are c.args.grid.shape b.wind c.args.tracer b.field _ _ (omega arith) (omega arith) clipped e total b.report _ c.step.ensures.gives.1.1.0 (omega (arith, room))) c.tracer_lines.ensures;
    }
