use mathlib.Core.Path.{sym, ◌∙◌}
use Rattle.rules.specs.Field.{quadratic}
use Rattle.field_elements.proofs.ElementLaws.{node-number, last-number}
use Rattle.field_elements.proofs.element.number_weight.Goals as goal

pub returns-then-v-lt-NODES : goal.returns-then-v-lt-NODES
unfolding quadratic
returns-then-v-lt-NODES c = c.node_weight.ensures ∙ sym (node-number quadratic c.args.v c.if-v-lt-NODES.true)

pub returns-else-v-lt-NODES : goal.returns-else-v-lt-NODES
unfolding quadratic
returns-else-v-lt-NODES c = sym (last-number quadratic c.args.v c.if-v-lt-NODES.false)
