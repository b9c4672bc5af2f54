-- The same of all rows.
use mathlib.Core.Path.{◌≡◌}
use Prim.Native.Nat.{ℕ, ◌+◌, ◌*◌, ◌≤◌}
use Rattle.whole.specs.Sum.{sum}
use Rattle.whole.specs.Table.{blocks}
use Rattle.whole.proofs.FillLaws.{BlocksFilled}
use Rattle.rules.specs.Limiter.{Closed}
use Rattle.rules.specs.Sizes.{clipped_size}
use Rattle.step.specs.Finish.{closed_lent}
use Rattle.step.proofs.tracer.finish.Given as goal

abbrev pub invariant-loop-index : goal.invariant-loop-index
invariant-loop-index l =
    let g = l.fn.grid.shape in
    let closing : ℕ → ℕ → Closed = λ j i. closed_lent g l.psi l.rises l.masses l.report (j * g.nx + i) in
    BlocksFilled (g.nx * 10) (λ j. blocks g.nx (λ i. (closing j i).numbers)) l.initial.part g.ny l.index l.part × ((l.clipped ≡ sum l.index (λ j. sum g.nx (λ i. (closing j i).clipped))) × (l.clipped ≤ l.index * (g.nx * clipped_size)))
