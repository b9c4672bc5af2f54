use mathlib.Core.Path.{sym, subst}
use Rattle.rules.specs.Answers.{AtMost}
use Rattle.c_numbers.specs.Numbers.{most_answered}
use Rattle.plume_c.proofs.Laws.{total-answers}
use Rattle.plume_c.proofs.plume_total.Goals as goal

pub number_or-requires : goal.number_or-requires
number_or-requires c = subst (AtMost most_answered) (sym c.total.ensures) (total-answers _ _ _)
