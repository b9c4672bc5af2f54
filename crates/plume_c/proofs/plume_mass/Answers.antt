use mathlib.Core.Path.{sym, subst}
use Rattle.rules.specs.Answers.{AtMost}
use Rattle.c_numbers.specs.Numbers.{most_answered}
use Rattle.plume_c.proofs.Laws.{mass-answers}
use Rattle.plume_c.proofs.plume_mass.Goals as goal

pub number_or-requires : goal.number_or-requires
number_or-requires c = subst (AtMost most_answered) (sym c.mass.ensures) (mass-answers _ _ _ _ _)
