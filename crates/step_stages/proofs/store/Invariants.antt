use lib.IntN.{pos}
use lib.ListN.{get_or}
use Rattle.whole.proofs.FillLaws.{Filled}
use Rattle.step_stages.proofs.store.Given as goal

abbrev pub invariant-loop-k : goal.invariant-loop-k
invariant-loop-k l = Filled (λ k. pos (get_or l.numbers k 0)) l.initial.values 9 l.k l.values
