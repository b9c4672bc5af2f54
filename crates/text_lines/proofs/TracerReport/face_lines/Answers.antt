use Rattle.std.proofs.Common.{◌≡◌, sym, ap, subst, ◌∙◌, ◌+◌, ◌-◌, ◌*◌, ◌≤◌, inl, take, drop, arith}
use native.Mathlib.Nat.{zero-mul}
use Rattle.whole.specs.Table.{blocks}
use Rattle.rules.specs.Grid.{face_index}
use Rattle.rules.specs.Program.{face_row, face_lines}
use Rattle.text.specs.Adds.{Adds}
use Rattle.text.proofs.AddsLaws.{blocks-none, block_more}
use Rattle.text_lines.proofs.RowLaws.{IsHalf, half-is, rows-left, none-left, there, next-rest, row-added}
use Rattle.text_lines.proofs.TracerReport.face_lines.Goals as goal
use Rattle.text_lines.proofs.TracerReport.face_lines.Goals.{After-into_iter-j-iterator, in-East, in-North}

-- where the half starts
first : (c : After-into_iter-j-iterator) → c.match-way.start ≡ face_index c.args.self.now.grid.shape c.args.way 0 0
first c = elim c.match-way.branch [ in-East w ↦ rw w.in-East.is (omega (arith, w.start-is)) | in-North w ↦ rw w.in-North.is (omega (arith, w.start-is, c.elements-n.ensures)) ]

half : (c : After-into_iter-j-iterator)
    → IsHalf c.args.self.now.grid.shape c.args.way c.args.self.now.report.now (take (c.match-way.start + c.elements-n.result - c.match-way.start) (drop c.match-way.start c.args.self.now.report.now))
half c = let p = c.args.self.now in half-is p.grid.shape c.args.way p.report.now c.match-way.start c.elements-n.result (first c) c.elements-n.ensures p.complete

pub loop-j-init : goal.loop-j-init
loop-j-init c =
    let p = c.args.self.now in
    let g = p.grid.shape in
    let a = p.grid.admitted in
    let e = c.into_iter-j-iterator.ensures.into_iter_gives in
    let q = c.enumerate-j-items.ensures in
    let source = ap (λ s. s.iter) e ∙ q.source in
    let none = ap (λ s. s.count) e ∙ q.count in
    let size = ap (λ s. s.size) source ∙ c.chunks_exact.ensures.size in
    let within : c.into_iter-j-iterator.result.count ≤ g.ny = omega (arith, none) in
    let rest = ap (λ s. s.rest.now) source ∙ c.chunks_exact.ensures.rest ∙ sym (ap (λ k. drop k (take (c.match-way.start + c.elements-n.result - c.match-way.start) (drop c.match-way.start p.report.now))) (ap (λ k. k * g.nx) none ∙ zero-mul g.nx)) in (
      (omega (arith, size, a.nx-above), tt, inl (omega (arith, a.ny-small, rows-left (half c) a.nx-above within rest _ size))),
      tt,
      size,
      within,
      rest,
      subst (λ k. Adds (k * (g.nx * 96)) (blocks k (face_row g p.tracer c.args.way p.report.now)) c.args.text.now c.args.text.now) (sym none) (blocks-none (g.nx * 96) _ c.args.text.now (omega (arith, c.requires))),
    )

pub loop-j-preserved : goal.loop-j-preserved
loop-j-preserved c =
    let p = c.args.self.now in
    let g = p.grid.shape in
    let a = p.grid.admitted in
    let w = half (goal.at.loop-j-preserved c).After-into_iter-j-iterator in
    let l = c.loop-j in
    let t = c.in-Some.ensures.steps in
    let count : c.next.new.self.count ≡ l.j-iterator.count + 1 = t.2 in
    let parts = t.0.1.0 in
    let size = t.0.0 ∙ l.invariant.2 in
    let long = t.0.1.1 ∙ l.invariant.2 in
    let within : c.next.new.self.count ≤ g.ny = omega (arith, count, there w a.nx-above l.invariant.3 l.invariant.4 _ _ parts long) in
    let rest = next-rest w a.nx-above l.invariant.3 l.invariant.4 _ _ parts long ∙ sym (ap (λ k. drop (k * g.nx) (take (c.match-way.start + c.elements-n.result - c.match-way.start) (drop c.match-way.start p.report.now))) count) in (
      (omega (arith, size, a.nx-above), tt, inl (omega (arith, a.ny-small, rows-left w a.nx-above within rest _ size))),
      tt,
      size,
      within,
      rest,
      subst (λ k. Adds (k * (g.nx * 96)) (blocks k (face_row g p.tracer c.args.way p.report.now)) c.args.text.now c.face_row.new.text) (sym count)
          (block_more (g.nx * 96) _ l.invariant.5 (row-added w a.nx-above l.invariant.3 l.invariant.4 _ _ parts long p.tracer (rw t.1 at c.face_row.ensures))),
    )

pub returns : goal.returns
unfolding face_lines
returns c =
    let a = c.args.self.now.grid.admitted in
    let l = c.loop-j in
    let e = none-left (half (goal.at.returns c).After-into_iter-j-iterator) a.nx-above l.invariant.3 l.invariant.4 (omega (arith, c.in-None.ensures.steps.0.1.0, l.invariant.2)) in
    rw e at l.invariant.5
