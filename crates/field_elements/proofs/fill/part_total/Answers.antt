use mathlib.Core.Path.{sym, ◌∙◌}
use Rattle.whole.proofs.SumLaws.{sum-cong}
use Rattle.field_elements.proofs.ElementLaws.{mass-ten}
use Rattle.field_elements.proofs.fill.part_total.Goals as goal

pub returns : goal.returns
returns c = c.weight.ensures ∙ sum-cong c.args.n _ _ (λ e _. sym (mass-ten c.args.part.now e))
