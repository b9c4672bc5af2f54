use lib.ListN.{length}
use Rattle.whole.proofs.FillLaws.{Filled}
use Rattle.rules.specs.Field.{quadratic}
use Rattle.rules.specs.HeldFlux.{rises}
use Rattle.step_correction.proofs.held.rises.Given as goal

abbrev pub invariant-loop-f : goal.invariant-loop-f
invariant-loop-f l = Filled (rises quadratic l.initial.fluxes l.report) l.initial.fluxes (length l.initial.fluxes) l.f l.fluxes
