use mathlib.Core.Path.{refl}
use Rattle.whole.proofs.Sizes.{exacts, bounded}
use Rattle.step_correction.proofs.held.node_value.Goals as goal

pub returns : goal.returns
returns c = let h = c.requires in bounded (search exacts depth 20) tt tt refl
