use Prim.Native.Nat.{◌/◌, ◌%◌}
use Rattle.whole.proofs.Sizes.{exacts, exact}
use Rattle.step_tendency.proofs.node_tendency.Goals as goal

pub returns : goal.returns
returns c = let x = c.requires.x_small.each (c.args.k / 3) in let y = c.requires.y_small.each (c.args.k % 3) in exact (search exacts depth 20) tt
