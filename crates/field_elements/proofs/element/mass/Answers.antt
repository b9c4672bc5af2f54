use mathlib.Core.Path.{ap, ◌∙◌}
use Rattle.rules.specs.Field.{quadratic}
use Rattle.field_elements.specs.Weighing.{weighed}
use Rattle.field_elements.proofs.ElementLaws.{mass-first}
use Rattle.field_elements.proofs.element.mass.Goals as goal

pub returns : goal.returns
returns c = c.weigh.ensures.value ∙ ap (weighed quadratic c.args.part.now 0) c.requires ∙ mass-first c.args.part.now
