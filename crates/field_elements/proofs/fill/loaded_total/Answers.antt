use mathlib.Core.Path.{◌∙◌}
use Rattle.whole.proofs.SumLaws.{sum-cong}
use Rattle.field_elements.proofs.LoadLaws.{nine-loaded}
use Rattle.field_elements.proofs.fill.loaded_total.Goals as goal

pub returns : goal.returns
returns c = c.weight.ensures ∙ sum-cong c.args.n _ _ (λ e _. nine-loaded c.args.numbers.now e)
