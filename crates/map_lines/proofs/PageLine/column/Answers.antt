-- A column by its test: its number, which has ten digits at most, or blanks.
use mathlib.Core.Path.{◌≡◌, sym, ap, ◌∙◌}
use native.Mathlib.Omega.{arith}
use lib.ListN.{length}
use Rattle.rules.specs.Text.{decimal_by, right_aligned}
use Rattle.rules.proofs.MapLaws.{column-there, column-missing}
use Rattle.rules.proofs.TextLaws.{characters-number}
use Rattle.text.proofs.AddsLaws.{same_bytes, wider}
use Rattle.map_lines.specs.PageNumbers.{numbers}
use Rattle.map_lines.proofs.PageLaws.{number-small}
use Rattle.map_lines.proofs.PageLine.column.Goals as goal
use Rattle.map_lines.proofs.PageLine.column.Goals.{After-number}

-- the number takes ten bytes
ten : (c : After-number) → length (right_aligned 10 (decimal_by 19 c.number.result)) ≡ 10
ten c =
    let l = c.args.self.now in
    (characters-number 10 9 c.number.result (omega arith) (omega arith) (omega (arith, c.number.ensures, number-small l.page l.line l.there c.args.i c.if-i-self.true))).long

pub right_aligned-requires : goal.right_aligned-requires
right_aligned-requires c = omega (arith, ten (goal.at.right_aligned-requires c).After-number, c.requires)

pub returns-then-i-self : goal.returns-then-i-self
returns-then-i-self c =
    let l = c.args.self.now in
    same_bytes (ap (λ k. right_aligned 10 (decimal_by 19 k)) c.number.ensures ∙ sym (column-there l.page.grid.shape (numbers l) c.args.i c.if-i-self.true)) (wider c.right_aligned.ensures 10 (omega (arith, ten (goal.at.returns-then-i-self c).After-number)))

pub returns-else-i-self : goal.returns-else-i-self
returns-else-i-self c =
    let l = c.args.self.now in
    same_bytes (sym (column-missing l.page.grid.shape (numbers l) c.args.i c.if-i-self.false)) c.blanks.ensures
