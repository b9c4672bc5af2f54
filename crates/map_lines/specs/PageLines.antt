-- What the functions that add a page's lines ask for, and the text of a line by its case.
use Rattle.std.specs.Prelude.{List, ℕ, ◌≤◌, ◌<◌, length}
use Rattle.std.specs.Coded.{Unit-prop, le_prop}
use Rattle.rules.specs.declared.Shape.{Shape}
use Rattle.rules.specs.Field.{quadratic, element, field_length, part, mass, total, limit}
use Rattle.rules.specs.Text.{decimal, blanks, right_aligned}
use Rattle.map_lines.specs.declared.BlockLine.{BlockLine}
use Rattle.map_lines.specs.declared.BlockLine.TheVariants.{Header, Row}

-- a tracer that is there, in a field that has room, with a total of at most the limit: every number of its page fits its width
pub record Printable (g : Shape) (s : ℕ) (field : List ℕ) : Type 0 where
  pub tracer : s < g.tracers
  pub room : field_length quadratic g ≤ length field
  pub small : total quadratic g (part quadratic g s field) ≤ limit

-- the line of a row that is there, or a block's first line
abbrev pub There : Shape → BlockLine → Type 0
There g Header = Unit {0}
There g (Row j) = j < g.ny

-- at most one proof of it, so that a struct can hold it
pub There-prop : (g : Shape) (l : BlockLine) → IsProp (There g l)
There-prop g Header = Unit-prop
There-prop g (Row j) = le_prop

-- what comes before the columns of a line
abbrev pub line_first : BlockLine → List ℕ
line_first Header = blanks 3
line_first (Row j) = right_aligned 3 (decimal j)

-- its number in column i, for the part p of a tracer
abbrev pub line_number : Shape → List ℕ → BlockLine → ℕ → ℕ
line_number g p Header i = i
line_number g p (Row j) i = mass quadratic p (element g i j)
