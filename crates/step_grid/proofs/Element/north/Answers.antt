use native.Mathlib.Omega.{arith}
use Rattle.step_grid.proofs.PlaceLaws.{placed}
use Rattle.step_grid.proofs.Laws.{north-next, north-last}
use Rattle.rules.proofs.ShapeLaws.{elements-le}
use Rattle.step_grid.proofs.Element.north.Goals as goal

pub overflow_add-e : goal.overflow_add-e
overflow_add-e c = let h = c.args.self.grid.admitted in record { fits = omega (arith, c.args.self.inside, elements-le c.args.self.grid.shape h, h.nx-small) }

pub overflow_add-result : goal.overflow_add-result
overflow_add-result c = let h = c.args.self.grid.admitted in record { fits = omega (arith, c.args.self.inside, elements-le c.args.self.grid.shape h, h.nx-small) }

pub overflow_add-result-else-e-nx : goal.overflow_add-result-else-e-nx
overflow_add-result-else-e-nx c = let h = c.args.self.grid.admitted in record { fits = omega (arith, c.args.self.inside, elements-le c.args.self.grid.shape h, h.nx-small) }

pub returns-then-e-nx : goal.returns-then-e-nx
returns-then-e-nx c = north-next c.args.self.grid.shape c.args.self.index (placed c.args.self) (rw c.elements-n.ensures at c.if-e-nx.true)

pub returns-else-e-nx : goal.returns-else-e-nx
returns-else-e-nx c = rw c.elements-n.ensures (north-last c.args.self.grid.shape c.args.self.index (placed c.args.self) (rw c.elements-n.ensures at c.if-e-nx.false))
