use mathlib.Core.Path.{ap₂, ◌∙◌}
use Rattle.std.proofs.Common.{rules}
use Rattle.whole.specs.Table.{table}
use Rattle.whole.proofs.FromFn.{table-from_fn}
use Rattle.step_tendency.specs.Line.{node_tendency, element_tendency}
use Rattle.step_tendency.proofs.tendencies.Goals as goal

pub returns : goal.returns
unfolding element_tendency
returns c =
    table-from_fn _ (node_tendency c.lines-x.result c.lines-y.result) (λ k y q l h. search rules) c.from_fn.ensures.items
    ∙ ap₂ (λ x y. table 9 (node_tendency x y)) c.lines-x.ensures.value c.lines-y.ensures.value
