-- The grid of a shape: there is one where the shape is admitted, and else the refusal is 2.
use Rattle.std.specs.Prelude.{◌≡◌, true, false, Result, Ok, Err}
use Rattle.rules.specs.declared.Shape.{Shape}
use Rattle.rules.specs.declared.Refusal.{Refusal}
use Rattle.rules.specs.declared.Refusal.TheVariants.{BadShape}
use Rattle.rules.specs.Field.{admitted}
use Rattle.field_layout.specs.declared.grid.Grid.{Grid}

abbrev pub IsGridOf : Shape → Result Grid Refusal → Type 0
IsGridOf g (Ok a) = (admitted g ≡ true) × (a.shape ≡ g)
IsGridOf g (Err r) = (admitted g ≡ false) × (r ≡ BadShape)
