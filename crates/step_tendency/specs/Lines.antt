-- What an element's lines of one way bring to its tendencies.
use Rattle.std.specs.Prelude.{List, ℕ, ℤ}
use Rattle.whole.specs.Table.{table, at}
use Rattle.step_tendency.specs.declared.Lines.{Lines}
use Rattle.step_tendency.specs.Line.{way_line}

abbrev pub line_of : Lines → ℕ → List ℤ
line_of l = way_line (at l.v.now) (at l.first.products) (at l.last.products) l.first.wind l.last.wind l.way.step l.way.stride

abbrev pub lines_of : Lines → List (List ℤ)
lines_of l = table 3 (line_of l)
