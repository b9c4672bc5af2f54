use native.Mathlib.Omega.{arith}
use Rattle.rules.proofs.ShapeLaws.{elements-le}
use Rattle.step_grid.proofs.PlaceLaws.{placed, south-in, sides-in}
use Rattle.step_grid.proofs.Element.sides.Goals as goal

pub overflow_add-result : goal.overflow_add-result
overflow_add-result c = let x = c.args.self in record { fits = omega (arith, c.elements-n.ensures, c.south.ensures, south-in (placed x), elements-le x.grid.shape x.grid.admitted) }

pub returns-clause-inside : goal.returns-clause-inside
returns-clause-inside c = rw (c.west.ensures, c.elements-n.ensures, c.south.ensures) (sides-in c.args.self)
