use lib.IntN.{pos}
use lib.ListN.{length}
use Rattle.whole.proofs.FillLaws.{Filled}
use Rattle.rules.specs.Field.{quadratic, mass}
use Rattle.step_correction.proofs.masses.Given as goal

abbrev pub invariant-loop-e : goal.invariant-loop-e
invariant-loop-e l = Filled (λ e. pos (mass quadratic l.part e)) l.initial.masses (length l.initial.masses) l.e l.masses
