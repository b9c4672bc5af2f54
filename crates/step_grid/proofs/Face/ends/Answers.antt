use native.Mathlib.Omega.{arith}
use mathlib.Core.Path.{sym, ◌∙◌}
use borrow.Author.Tests.{ltb-true, ltb-false}
use Rattle.rules.specs.Field.{elements}
use Rattle.step_grid.proofs.PlaceLaws.{north-ends}
use Rattle.rules.proofs.GridLaws.{behind-east, ahead-east}
use Rattle.step_grid.proofs.RowLaws.{owner-column}
use Rattle.step_grid.proofs.Face.ends.Goals as goal

pub invariant_of-owner-else-looks_east : goal.invariant_of-owner-else-looks_east
invariant_of-owner-else-looks_east c =
    let x = c.args.self in
    let h = ltb-false x.index (elements x.grid.shape) (sym c.if-looks_east.ensures) in
    record { inside = omega (arith, x.inside, h, c.elements.ensures); column_is = x.column_is ∙ sym (owner-column x.grid.shape x.index c.elements.result c.elements.ensures (omega (arith, h, c.elements.ensures))) }

pub returns-then-looks_east-clause-behind : goal.returns-then-looks_east-clause-behind
returns-then-looks_east-clause-behind c = let x = c.args.self in sym (behind-east x.grid.shape x.index (ltb-true x.index (elements x.grid.shape) (sym c.if-looks_east.ensures)))

pub returns-then-looks_east-clause-ahead : goal.returns-then-looks_east-clause-ahead
returns-then-looks_east-clause-ahead c = let x = c.args.self in c.east.ensures ∙ sym (ahead-east x.grid.shape x.index (ltb-true x.index (elements x.grid.shape) (sym c.if-looks_east.ensures)))

pub returns-else-looks_east-clause-behind : goal.returns-else-looks_east-clause-behind
returns-else-looks_east-clause-behind c = let x = c.args.self in (north-ends x c.elements.ensures (ltb-false x.index (elements x.grid.shape) (sym c.if-looks_east.ensures))).0

pub returns-else-looks_east-clause-ahead : goal.returns-else-looks_east-clause-ahead
returns-else-looks_east-clause-ahead c = let x = c.args.self in c.north.ensures ∙ (north-ends x c.elements.ensures (ltb-false x.index (elements x.grid.shape) (sym c.if-looks_east.ensures))).1
