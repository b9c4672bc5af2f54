use Rattle.whole.specs.Table.{table}
use Rattle.whole.proofs.FillLaws.{BlocksFilled}
use Rattle.rules.specs.Calls.{wind_at}
use Rattle.step_stages.specs.Passes.{row_sum}
use Rattle.step_stages.proofs.add_row.Given as goal

abbrev pub invariant-loop-column : goal.invariant-loop-column
invariant-loop-column l =
    let s = l.fn.from.stage in
    let g = s.winds.grid.shape in
    BlocksFilled 9 (λ i. table 9 (row_sum g (wind_at s.winds.wind.now) l.fn.times l.initial.sums s.phi.now l.fn.index i)) l.initial.sums g.nx l.column l.sums
