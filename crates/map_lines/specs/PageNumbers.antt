-- The numbers of a tracer's page.
use Rattle.std.specs.Prelude.{List, ℕ}
use Rattle.rules.specs.Field.{quadratic, part}
use Rattle.map_lines.specs.declared.TracerPage.{TracerPage}
use Rattle.map_lines.specs.declared.PageLine.{PageLine}
use Rattle.map_lines.specs.PageLines.{line_number}

-- the tracer's part of the field
abbrev pub page_part : TracerPage → List ℕ
page_part p = part quadratic p.grid.shape p.tracer p.field.now

-- the number of a line in column i
abbrev pub numbers : PageLine → ℕ → ℕ
numbers l i = line_number l.page.grid.shape (page_part l.page) l.line i
