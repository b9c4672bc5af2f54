use lib.IntN.{pos}
use lib.ListN.{get_or}
use Rattle.whole.specs.Table.{at}
use Rattle.whole.proofs.FillLaws.{Filled}
use Rattle.step_stages.specs.Passes.{from_stage, new_value}
use Rattle.step_stages.proofs.set.Given as goal

abbrev pub invariant-loop-k : goal.invariant-loop-k
invariant-loop-k l = Filled (λ k. new_value (from_stage l.fn.pass) (pos (get_or l.numbers k 0)) (at l.sums k)) l.initial.values 9 l.k l.values
