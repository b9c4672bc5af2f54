-- The loop fills the first nine numbers with the values.
use lib.ListN.{take}
use Rattle.whole.proofs.FillLaws.{Filled}
use Rattle.limiter.specs.Values.{value_of}
use Rattle.limiter.proofs.put.Given as goal

abbrev pub invariant-loop-k : goal.invariant-loop-k
invariant-loop-k l = Filled (value_of l.fn.values) (take 9 l.fn.part) 9 l.k l.number-items
