use Rattle.step_grid.proofs.RowLaws.{face-inside, column-is}
use Rattle.step_grid.proofs.Row.face.Goals as goal

pub invariant_of-result : goal.invariant_of-result
invariant_of-result c =
    let a = c.args in
    rw c.start.ensures (record { inside = face-inside a.self.grid.shape a.self.index c.requires a.self.inside; column_is = column-is a.self.grid.shape a.self.index c.requires })
