use mathlib.Core.Path.{sym, subst}
use Rattle.rules.specs.Answers.{AtMost}
use Rattle.c_numbers.specs.Numbers.{most_answered}
use Rattle.plume_c.proofs.Laws.{emission-small}
use Rattle.plume_c.proofs.plume_emission.Goals as goal

pub number_or-requires : goal.number_or-requires
number_or-requires c = subst (AtMost most_answered) (sym c.emission.ensures.0) (emission-small _ _ _ _ _ _)
