use native.Mathlib.Omega.{arith}
use Rattle.step_grid.proofs.PlaceLaws.{placed}
use Rattle.step_grid.proofs.Laws.{south-first, south-next}
use Rattle.rules.proofs.ShapeLaws.{elements-le, row-le}
use Rattle.step_grid.proofs.Element.south.Goals as goal

pub overflow_add-result : goal.overflow_add-result
overflow_add-result c = record { fits = omega (arith, c.args.self.inside, c.elements-n.ensures, elements-le c.args.self.grid.shape c.args.self.grid.admitted) }

pub overflow_sub-result : goal.overflow_sub-result
overflow_sub-result c = omega (arith, c.args.self.inside, c.if-e-nx.true, c.elements-n.ensures, row-le c.args.self.grid.shape c.args.self.grid.admitted)

pub returns-then-e-nx : goal.returns-then-e-nx
returns-then-e-nx c = rw c.elements-n.ensures (south-first c.args.self.grid.shape c.args.self.index (placed c.args.self) c.if-e-nx.true)

pub returns-else-e-nx : goal.returns-else-e-nx
returns-else-e-nx c = south-next c.args.self.grid.shape c.args.self.index (placed c.args.self) c.if-e-nx.false
