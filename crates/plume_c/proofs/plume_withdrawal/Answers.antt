use mathlib.Core.Path.{sym, subst}
use Rattle.rules.specs.Answers.{AtMost}
use Rattle.c_numbers.specs.Numbers.{most_answered}
use Rattle.plume_c.proofs.Laws.{withdrawal-small}
use Rattle.plume_c.proofs.plume_withdrawal.Goals as goal

pub number_or-requires : goal.number_or-requires
number_or-requires c = subst (AtMost most_answered) (sym c.withdrawal.ensures.0) (withdrawal-small _ _ _ _ _ _)
