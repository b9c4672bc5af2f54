use Rattle.rules.proofs.ShapeLaws.{admitted-is}
use mathlib.Core.Path.{sym, ◌∙◌}
use Rattle.field_layout.proofs.grid.GridTryFromShape.try_from.Goals as goal

pub invariant_of-result : goal.invariant_of-result
invariant_of-result c = record { admitted = admitted-is c.args.shape (sym c.admitted.ensures ∙ c.if-admitted.true) }
