-- What the reading of a program's file gives: its answer, and the buffers.
use Rattle.std.specs.Prelude.{◌≡◌, List, ℕ, ℤ}
use Rattle.rules.specs.declared.Shape.{Shape}
use Rattle.rules.specs.Answers.{Answer, after}
use Rattle.rules.specs.Field.{quadratic}
use Rattle.rules.specs.FieldFile.{read_field, read_wind}
use Rattle.rules.specs.Program.{file_reply}

module _ (file field : List ℕ) (wind : List ℤ) where
  unfoldable pub taken_field : List ℕ
  unfolding after
  taken_field = after (file_reply file field wind) (read_field quadratic file field wind) field

  unfoldable pub taken_wind : List ℤ
  unfolding after
  taken_wind = after (file_reply file field wind) (read_wind quadratic file field wind) wind

  abbrev pub FileGives : (Answer Shape → Type 0) → List ℕ → List ℤ → Type 0
  FileGives told field' wind' = told (file_reply file field wind) × ((field' ≡ taken_field) × (wind' ≡ taken_wind))
