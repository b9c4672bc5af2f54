-- An element of a tracer that is there, and where its numbers stand.
use Rattle.std.specs.Prelude.{ℕ, ◌+◌, ◌*◌, ◌<◌}
use Rattle.rules.specs.declared.Shape.{Shape}
use Rattle.rules.specs.Field.{quadratic, element, element_length, part_length}
use Rattle.rules.specs.Sizes.{most_elements}

-- element (i, j) of a tracer that is there
pub record Inside (g : Shape) (s i j : ℕ) : Type 0 where
  pub tracer : s < g.tracers
  pub column : i < g.nx
  pub row : j < g.ny

-- where element (i, j) of tracer s starts in the field
unfoldable pub element_start : Shape → ℕ → ℕ → ℕ → ℕ
element_start g s i j = s * part_length quadratic g + element g i j * element_length quadratic

-- the numbers of an admitted tracer's part and of an admitted field, at most
abbrev pub most_part : ℕ
most_part = 10 * most_elements + 1

abbrev pub most_field : ℕ
most_field = 8 * most_part
