use mathlib.Core.Path.{◌∙◌}
use Rattle.whole.proofs.Sizes.{sizes, exacts, fits, exact}
use Rattle.rules.proofs.QuadraticLaws.{weight-le, node-weight-is}
use Rattle.rules.proofs.element.signed_weight.Goals as goal

pub overflow_mul-result : goal.overflow_mul-result
overflow_mul-result c = let a = c.line_weight.ensures in let b = c.line_weight-2.ensures in fits (search sizes depth 20) tt

pub returns : goal.returns
returns c =
    let a = c.line_weight.ensures in
    let b = c.line_weight-2.ensures in
    record { same = exact (search exacts depth 20) tt ∙ node-weight-is c.args.k; bound = record { within = weight-le c.args.k c.requires } }
