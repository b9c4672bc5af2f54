use Rattle.whole.proofs.Sizes.{sizes, exacts, within, exact}
use Rattle.step_tendency.proofs.product.Goals as goal

pub returns-clause-value : goal.returns-clause-value
returns-clause-value c = let h = c.requires in exact (search exacts depth 20) tt

pub returns-clause-small : goal.returns-clause-small
returns-clause-small c = let h = c.requires in within (search sizes depth 20) tt
