use lib.ListN.{length}
use Rattle.whole.specs.Table.{at}
use Rattle.whole.proofs.FillLaws.{Filled}
use Rattle.step_fluxes.specs.Amount.{rounded}
use Rattle.step_fluxes.proofs.fluxes.Given as goal

abbrev pub invariant-loop-amount : goal.invariant-loop-amount
invariant-loop-amount l = Filled (λ f. rounded (at l.initial.amounts f)) l.initial.amounts (length l.initial.amounts) l.amount-index l.amounts
