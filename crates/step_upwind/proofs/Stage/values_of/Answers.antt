use native.Mathlib.Omega.{arith}
use Rattle.step_upwind.proofs.ListedLaws.{chunk-of}
use Rattle.step_upwind.proofs.Stage.values_of.Goals as goal

pub returns : goal.returns
returns c = chunk-of c.args.self.phi.now c.args.index c.as_chunks.ensures.front (omega (arith, c.args.self.all_nodes, c.requires))
