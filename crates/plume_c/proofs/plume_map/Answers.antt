use mathlib.Core.Path.{sym, subst}
use Rattle.rules.specs.Answers.{AtMost}
use Rattle.c_numbers.specs.Numbers.{most_answered}
use Rattle.plume_c.proofs.Laws.{map-answers}
use Rattle.plume_c.proofs.plume_map.Goals as goal

pub number_or-requires : goal.number_or-requires
number_or-requires c = subst (AtMost most_answered) (sym c.map.ensures.0) (map-answers _ _ _ _)
