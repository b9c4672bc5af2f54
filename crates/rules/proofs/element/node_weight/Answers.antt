use mathlib.Core.Path.{◌∙◌, ap}
use lib.IntN.{nat_abs}
use mir.Syntax.{w64}
use Rattle.whole.proofs.Sizes.{read_back}
use Rattle.rules.proofs.element.node_weight.Goals as goal

pub returns : goal.returns
returns c = c.unsigned_abs.ensures.value ∙ ap nat_abs (read_back w64 c.signed_weight.ensures tt)
