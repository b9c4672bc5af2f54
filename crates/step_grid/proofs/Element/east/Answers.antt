use mathlib.Core.Path.{sym, ap, ◌∙◌}
use Prim.Native.Nat.{◌+◌}
use native.Mathlib.Omega.{arith}
use native.Mathlib.Nat.{mod-lt}
use Rattle.step_grid.proofs.PlaceLaws.{placed}
use Rattle.step_grid.proofs.Laws.{row-column, east-last, east-next}
use Rattle.rules.proofs.ShapeLaws.{elements-le}
use Rattle.step_grid.proofs.Element.east.Goals as goal

pub overflow_add-self : goal.overflow_add-self
overflow_add-self c = let h = c.args.self.grid.admitted in record { fits = omega (arith, c.args.self.column_is, mod-lt c.args.self.index h.nx-above, h.nx-small) }

pub overflow_add-result : goal.overflow_add-result
overflow_add-result c = record { fits = omega (arith, c.args.self.inside, elements-le c.args.self.grid.shape c.args.self.grid.admitted) }

pub overflow_sub-result : goal.overflow_sub-result
overflow_sub-result c = omega (arith, row-column c.args.self.grid.shape c.args.self.index (placed c.args.self), c.args.self.column_is, c.if-self-nx.true)

pub overflow_add-result-else-self-nx : goal.overflow_add-result-else-self-nx
overflow_add-result-else-self-nx c = record { fits = omega (arith, c.args.self.inside, elements-le c.args.self.grid.shape c.args.self.grid.admitted) }

pub returns-then-self-nx : goal.returns-then-self-nx
returns-then-self-nx c = east-last c.args.self.grid.shape c.args.self.index (placed c.args.self) (ap (λ x. x + 1) (sym c.args.self.column_is) ∙ c.if-self-nx.true)

pub returns-else-self-nx : goal.returns-else-self-nx
returns-else-self-nx c = east-next c.args.self.grid.shape c.args.self.index (placed c.args.self) (λ z. c.if-self-nx.false (ap (λ x. x + 1) c.args.self.column_is ∙ z))
