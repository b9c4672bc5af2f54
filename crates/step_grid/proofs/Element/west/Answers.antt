use mathlib.Core.Path.{sym, ◌∙◌}
use native.Mathlib.Omega.{arith}
use Rattle.step_grid.proofs.PlaceLaws.{placed}
use Rattle.step_grid.proofs.Laws.{row-column, west-first, west-next}
use Rattle.rules.proofs.ShapeLaws.{elements-le}
use Rattle.step_grid.proofs.Element.west.Goals as goal

pub overflow_add-result : goal.overflow_add-result
overflow_add-result c = record { fits = omega (arith, c.args.self.inside, elements-le c.args.self.grid.shape c.args.self.grid.admitted, c.args.self.grid.admitted.nx-small) }

pub overflow_sub-result : goal.overflow_sub-result
overflow_sub-result c = omega (arith, c.args.self.grid.admitted.nx-above)

pub overflow_sub-result-else-self-eq0 : goal.overflow_sub-result-else-self-eq0
overflow_sub-result-else-self-eq0 c = let a = c.args in omega (arith, row-column a.self.grid.shape a.self.index (placed a.self), a.self.column_is, c.if-self-eq0.false)

pub returns-then-self-eq0 : goal.returns-then-self-eq0
returns-then-self-eq0 c = let a = c.args in west-first a.self.grid.shape a.self.index (placed a.self) (sym a.self.column_is ∙ c.if-self-eq0.true)

pub returns-else-self-eq0 : goal.returns-else-self-eq0
returns-else-self-eq0 c = let a = c.args in west-next a.self.grid.shape a.self.index (placed a.self) (λ z. c.if-self-eq0.false (a.self.column_is ∙ z))
