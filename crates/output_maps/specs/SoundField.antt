-- A field that was read: every tracer of it is sound.
use Rattle.std.specs.Prelude.{List, ℕ, ◌≤◌, T, length}
use Rattle.rules.specs.declared.Shape.{Shape}
use Rattle.rules.specs.Field.{quadratic, field_length}
use Rattle.rules.specs.FieldFile.{field_sound}

pub record SoundField (g : Shape) (field : List ℕ) : Type 0 where
  pub room : field_length quadratic g ≤ length field
  pub tracers : T (field_sound quadratic g field)
