use Rattle.step_grid.proofs.RowLaws.{element-inside, column-is}
use Rattle.step_grid.proofs.Row.element.Goals as goal

pub invariant_of-result : goal.invariant_of-result
invariant_of-result c =
    let a = c.args in
    rw c.start.ensures (record { inside = element-inside a.self.grid.shape a.self.index c.requires.column c.requires.row; column_is = column-is a.self.grid.shape a.self.index c.requires.column })
