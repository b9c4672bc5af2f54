use mathlib.Core.Path.{ap}
use Rattle.rules.specs.Answers.{answered}
use Rattle.c_numbers.proofs.NumberLaws.{shape_is, shape-refusal-is}
use Rattle.c_numbers.proofs.shape_or.Goals as goal

pub returns-in-Ok : goal.returns-in-Ok
returns-in-Ok c = shape_is _ c.in-Ok.shape c.requires (ap answered c.in-Ok.is)

pub returns-in-Err : goal.returns-in-Err
returns-in-Err c = shape-refusal-is _ c.negated.result c.in-Err.r c.negated.ensures (ap answered c.in-Err.is)
