use lib.IntN.{◌+ℤ◌, ◌*ℤ◌}
use Rattle.whole.specs.Table.{at}
use Rattle.whole.proofs.FillLaws.{Filled}
use Rattle.step_stages.proofs.add.Given as goal

abbrev pub invariant-loop-k : goal.invariant-loop-k
invariant-loop-k l = Filled (λ k. at l.initial.sums k +ℤ l.fn.times *ℤ at l.t k) l.initial.sums 9 l.k l.sums
