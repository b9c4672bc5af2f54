use Rattle.std.proofs.Common.{arith}
use Rattle.std.proofs.lemmas.Int.{ints}
use Rattle.rules.specs.Field.{quadratic}
use Rattle.rules.proofs.QuadraticLaws.{line-weight-le}
use Rattle.rules.proofs.element.line_weight.Goals as goal

pub returns : goal.returns
unfolding quadratic
returns c = record { same = omega (arith, ints); bound = record { within = line-weight-le c.args.a } }
