use mathlib.Core.Path.{◌∙◌}
use native.Mathlib.Omega.{arith}
use Rattle.rules.specs.Map.{block_count}
use Rattle.map_lines.proofs.block_count.Goals as goal

pub returns : goal.returns
unfolding block_count
returns c = c.div_ceil.ensures ∙ omega arith
