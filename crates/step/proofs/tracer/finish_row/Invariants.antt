-- The loop fills the row with closed elements and keeps the sum of their clipped masses, each of which is bounded: so the sum fits.
use mathlib.Core.Path.{◌≡◌}
use Prim.Native.Nat.{ℕ, ◌+◌, ◌*◌, ◌≤◌}
use Rattle.whole.specs.Sum.{sum}
use Rattle.whole.proofs.FillLaws.{BlocksFilled}
use Rattle.rules.specs.Limiter.{Closed}
use Rattle.rules.specs.Sizes.{clipped_size}
use Rattle.step.specs.Finish.{closed_lent}
use Rattle.step.proofs.tracer.finish_row.Given as goal

abbrev pub invariant-loop-column : goal.invariant-loop-column
invariant-loop-column l =
    let r = l.fn.row in
    let closing : ℕ → Closed = λ i. closed_lent r.grid.shape l.psi l.rises l.masses l.report (r.index * r.grid.shape.nx + i) in
    BlocksFilled 10 (λ i. (closing i).numbers) l.initial.part r.grid.shape.nx l.column l.part × ((l.clipped ≡ sum l.column (λ i. (closing i).clipped)) × (l.clipped ≤ l.column * clipped_size))
