use mathlib.Core.Path.{ap}
use Rattle.rules.specs.Answers.{answered}
use Rattle.c_numbers.proofs.NumberLaws.{number_is, refusal_is}
use Rattle.c_numbers.proofs.number_or.Goals as goal

pub returns-in-Ok : goal.returns-in-Ok
returns-in-Ok c = number_is _ _ c.requires (ap answered c.in-Ok.is)

pub returns-in-Err : goal.returns-in-Err
returns-in-Err c = refusal_is _ c.negated.result c.in-Err.r c.negated.ensures (ap answered c.in-Err.is)
