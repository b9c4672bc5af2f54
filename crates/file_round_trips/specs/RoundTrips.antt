-- The two round trips of a field file, over the definitions that the contracts of the two calls cite.
-- Demand 2: "a field written to a file is the field read from it, and an accepted file, written again, has the same bytes"; and document 02, 2026-06:
-- ""PLUM" is still read, its totals worked out, and such a file is written again as "PLU2"; only files with the new mark come back byte for byte."
use Rattle.std.specs.Prelude.{◌≡◌, List, ℕ, ◌<◌, ℤ, length, take, Result, Ok}
use Rattle.whole.specs.Table.{overwrite}
use Rattle.rules.specs.declared.Shape.{Shape}
use Rattle.rules.specs.declared.Mark.{Mark}
use Rattle.rules.specs.declared.Mark.TheVariants.{Plu2}
use Rattle.rules.specs.Answers.{accepted}
use Rattle.rules.specs.Field.{Kind, quadratic, faces, field_length, part, stored_total, total}
use Rattle.rules.specs.FieldFile.{file_length, tail_mark, file_of, read_reply, read_field, read_wind, write_reply, write_file}
use Rattle.rules.specs.declared.Refusal.{Refusal}

-- ---- over the rules, for a kind of element κ and a shape g
-- `field` and `wind` were written into `out`, n bytes; these n bytes are read into `field'` and `wind'`: the shape is answered, and
-- every number of the shape is the one that was written. Surplus stays.
pub record WrittenIsRead (κ : Kind) (g : Shape) (field field' : List ℕ) (wind wind' : List ℤ) (out : List ℕ) (n : ℕ) : Type 0 where
  pub shape : read_reply κ (take n (write_file κ g field wind out)) field' wind' ≡ accepted g
  pub numbers : read_field κ (take n (write_file κ g field wind out)) field' wind' ≡ overwrite 0 (take (field_length κ g) field) field'
  pub winds : read_wind κ (take n (write_file κ g field wind out)) field' wind' ≡ overwrite 0 (take (faces g) wind) wind'

-- `file`, of shape g, was read into `field` and `wind`; what these then hold is written into `out`. Surplus stays.
pub record ReadIsWritten (κ : Kind) (g : Shape) (file field : List ℕ) (wind : List ℤ) (out : List ℕ) : Type 0 where
  -- the file that was read is that of what they hold, with its own mark: "PLUM" without the totals
  pub own : file ≡ file_of κ (tail_mark file) g (read_field κ file field wind) (read_wind κ file field wind)
  -- "its totals worked out"
  pub totals : (s : ℕ) → s < g.tracers → let p = part κ g s (read_field κ file field wind) in stored_total κ g p ≡ total κ g p
  -- and what is written is their file with the mark "PLU2"
  pub size : write_reply κ g (read_field κ file field wind) (read_wind κ file field wind) out ≡ accepted (file_length κ Plu2 g)
  pub bytes : write_file κ g (read_field κ file field wind) (read_wind κ file field wind) out ≡ overwrite 0 (file_of κ Plu2 g (read_field κ file field wind) (read_wind κ file field wind)) out

-- ---- over the calls, of which nothing is known but what their contracts say (`ReadGives`, `WriteGives`)
-- the answer r and the buffers of a `read` that finds the field and wind that were written, where it was lent `field₀` and `wind₀`
pub record FoundAgain (g : Shape) (field : List ℕ) (wind : List ℤ) (field₀ : List ℕ) (wind₀ : List ℤ) (r : Result Shape Refusal) (field' : List ℕ) (wind' : List ℤ) : Type 0 where
  pub answer : r ≡ Ok g
  pub numbers : field' ≡ overwrite 0 (take (field_length quadratic g) field) field₀
  pub winds : wind' ≡ overwrite 0 (take (faces g) wind) wind₀

-- `file`, of shape g with the mark m, was read, and left `field` and `wind`; the answer r and the file of a `write` of these, where it was lent `out`.
-- "its totals worked out, and such a file is written again as "PLU2""
pub record WrittenAgain (m : Mark) (g : Shape) (file field : List ℕ) (wind : List ℤ) (out : List ℕ) (r : Result ℕ Refusal) (out' : List ℕ) : Type 0 where
  -- with its own mark: "PLUM" without the totals
  pub own : file ≡ file_of quadratic m g field wind
  pub totals : (s : ℕ) → s < g.tracers → let p = part quadratic g s field in stored_total quadratic g p ≡ total quadratic g p
  pub answer : r ≡ Ok (file_length quadratic Plu2 g)
  pub bytes : out' ≡ overwrite 0 (file_of quadratic Plu2 g field wind) out
  -- "only files with the new mark come back byte for byte": the others are shorter than what is written
  pub only-new : length file ≡ file_length quadratic Plu2 g → m ≡ Plu2

-- the same where the mark is "PLU2": the same bytes
pub record SameBytes (file out : List ℕ) (r : Result ℕ Refusal) (out' : List ℕ) : Type 0 where
  pub answer : r ≡ Ok (length file)
  pub bytes : out' ≡ overwrite 0 file out
