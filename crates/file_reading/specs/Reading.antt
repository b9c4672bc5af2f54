-- The two halves of the checks of file reading: those of the tail, and those that need the shape.
use Rattle.std.specs.Prelude.{◌≡◌, ◌&&◌, List, [], ◌∷◌, ℕ, ◌<◌, leb, get_or}
use Rattle.rules.specs.declared.Shape.{Shape}
use Rattle.rules.specs.declared.Mark.{Mark}
use Rattle.rules.specs.Answers.{Answer, Check, check, answer}
use Rattle.rules.specs.Field.{quadratic, admitted, faces, field_length, part, total}
use Rattle.rules.specs.Calls.{wind_sound}
use Rattle.rules.specs.FieldFile.{tail_shape, tail_right, offsets_right, file_wind, file_field, field_sound}

-- 1 and 2
abbrev pub tail_checks : List ℕ → List Check
tail_checks file = check 1 (tail_right file) ∷ check 2 (admitted (tail_shape file)) ∷ []

-- what the tail of a file gives
unfoldable pub tail_reply : List ℕ → Answer Shape
tail_reply file = answer (tail_checks file) (tail_shape file)

-- 3 to 6, for the mark m, the shape g and buffers of these lengths
unfoldable pub shape_checks : Mark → Shape → List ℕ → ℕ → ℕ → List Check
shape_checks m g file field wind =
    check 3 (offsets_right quadratic m g file) ∷ check 4 (leb (field_length quadratic g) field && leb (faces g) wind)
    ∷ check 5 (wind_sound g (file_wind g file)) ∷ check 6 (field_sound quadratic g (file_field quadratic m g file)) ∷ []

-- whether the file passes them
unfoldable pub shape_reply : Mark → Shape → List ℕ → ℕ → ℕ → Answer (Unit {0})
unfolding shape_checks answer
shape_reply m g file field wind = answer (shape_checks m g file field wind) tt

-- the first numbers of a list are the totals of a field's tracers (document 01: "A smoke's total is the sum of M")
abbrev pub AreTotals : Shape → List ℕ → List ℕ → Type 0
AreTotals g field totals = (s : ℕ) → s < g.tracers → get_or totals s 0 ≡ total quadratic g (part quadratic g s field)
