-- Document 01, "Field file", and document 02, 2026-03 and 2026-04: what the programs print, as bytes.
use Rattle.std.specs.Prelude.{cond, List, [], ◌∷◌, ◌++◌, ltb, ℤ, pos, length, replicate}
use Prim.Native.Nat.{ℕ, zero, suc, ◌+◌, ◌*◌}
use Rattle.whole.specs.Table.{blocks, at}
use Rattle.rules.specs.declared.Shape.{Shape}
use Rattle.rules.specs.declared.Way.{Way}
use Rattle.rules.specs.declared.Way.TheVariants.{East, North}
use Rattle.rules.specs.Answers.{Answer, accepted, refused}
use Rattle.rules.specs.Field.{quadratic, element_length, part}
use Rattle.rules.specs.Grid.{face_index}
use Rattle.rules.specs.Calls.{step, lengths_lent, call, total_reading}
use Rattle.rules.specs.FieldFile.{read_reply, read_field, read_wind}
use Rattle.rules.specs.Text.{decimal_by, decimal, signed, space, newline}
use Rattle.rules.specs.Map.{page_text}

-- ---- lines
-- the words grid, face, total and refused, each with a space after it
abbrev pub grid_word : List ℕ
grid_word = 103 ∷ 114 ∷ 105 ∷ 100 ∷ 32 ∷ []

abbrev pub face_word : List ℕ
face_word = 102 ∷ 97 ∷ 99 ∷ 101 ∷ 32 ∷ []

abbrev pub total_word : List ℕ
total_word = 116 ∷ 111 ∷ 116 ∷ 97 ∷ 108 ∷ 32 ∷ []

abbrev pub refused_word : List ℕ
refused_word = 114 ∷ 101 ∷ 102 ∷ 117 ∷ 115 ∷ 101 ∷ 100 ∷ 32 ∷ []

-- the directions east and north, with a space before and after
abbrev pub way_word : Way → List ℕ
way_word East = 32 ∷ 101 ∷ 97 ∷ 115 ∷ 116 ∷ 32 ∷ []
way_word North = 32 ∷ 110 ∷ 111 ∷ 114 ∷ 116 ∷ 104 ∷ 32 ∷ []

-- a word and three numbers
unfoldable pub numbers_line : List ℕ → ℕ → ℕ → ℕ → List ℕ
unfolding decimal_by
numbers_line word x y z = word ++ (decimal x ++ (space ++ (decimal y ++ (space ++ (decimal z ++ newline)))))

-- "Fields: nx, ny, K; smoke, direction, i, j, G* ..; smoke, total after the step."
unfoldable pub grid_line : Shape → List ℕ
unfolding numbers_line
grid_line g = numbers_line grid_word g.nx g.ny g.tracers

unfoldable pub face_line : ℕ → Way → ℕ → ℕ → ℤ → List ℕ
unfolding decimal_by signed
face_line s way i j flux = face_word ++ (decimal s ++ (way_word way ++ (decimal i ++ (space ++ (decimal j ++ (space ++ (signed flux ++ newline)))))))

-- document 02, 2026-04: "The program's total line gets it as a last field"
unfoldable pub total_line : ℕ → ℕ → ℕ → List ℕ
unfolding numbers_line
total_line s total clipped = numbers_line total_word s total clipped

-- "Any other refusal prints "refused" and its number, alone."
unfoldable pub refused_line : ℕ → List ℕ
unfolding decimal_by
refused_line n = refused_word ++ (decimal n ++ newline)

module _ (g : Shape) (s : ℕ) where
  -- the faces that look one way, "j outer"
  unfoldable pub face_row : Way → List ℤ → ℕ → List ℕ
  unfolding blocks face_line
  face_row way report j = blocks g.nx (λ i. face_line s way i j (at report (face_index g way i j)))

  unfoldable pub face_lines : Way → List ℤ → List ℕ
  unfolding blocks face_row
  face_lines way report = blocks g.ny (face_row way report)

  -- "all east faces first"; "Face lines and the total come smoke by smoke."
  unfoldable pub tracer_lines : List ℤ → ℕ → ℕ → List ℕ
  unfolding face_lines total_line
  tracer_lines report total clipped = face_lines East report ++ (face_lines North report ++ total_line s total clipped)

-- ---- a step of each tracer
-- what goes on where an answer is accepted
abbrev pub next : {A B : Type 0} → Answer A → (A → Answer B) → Answer B
next (accepted x) f = f x
next (refused n) f = refused n

-- the lines that are printed so far, and the field
pub record Printed : Type 0 where
  pub text : List ℕ
  pub field : List ℕ

-- report and work for 128 elements
abbrev pub report_lent : ℕ
report_lent = 2 * 128

abbrev pub work_lent : ℕ
work_lent = 64 * 128

module _ (g : Shape) (wind : List ℤ) where
  -- tracer s is stepped and its lines are printed
  unfoldable pub stepped : ℕ → List ℕ → Answer Printed
  unfolding call total_reading tracer_lines
  stepped s field =
      let c = call quadratic g s (step (lengths_lent wind report_lent work_lent)) field in
      next c.reply (λ r. next (total_reading quadratic g s c.field) (λ total. accepted (record { text = tracer_lines g s r.report total r.clipped; field = c.field })))

  -- the first n tracers, after the line of the grid
  unfoldable pub up_to : ℕ → List ℕ → Answer Printed
  unfolding grid_line stepped
  up_to zero field = accepted (record { text = grid_line g; field = field })
  up_to (suc s) field = next (up_to s field) (λ p. next (stepped s p.field) (λ q. accepted (record { text = p.text ++ q.text; field = q.field })))

-- ---- what the programs do with a file
-- "Over 65,536 bytes it prints "refused 3", before any other check.": else what its reading answers. `field` and `wind` are the lent buffers
unfoldable pub file_reply : List ℕ → List ℕ → List ℤ → Answer Shape
unfolding read_reply
file_reply file field wind = cond (ltb 65536 (length file)) (refused 3) (read_reply quadratic file field wind)

-- what is printed in the end: the text, or the refusal alone
unfoldable pub text_of : Answer (List ℕ) → List ℕ
unfolding refused_line
text_of (accepted text) = text
text_of (refused n) = refused_line n

-- "It lends buffers for exactly 128 elements and eight smokes, so a larger grid gets 4": ten numbers an element, one
-- total a smoke and two winds an element, all zero. Check 4 of file reading sees a larger grid by its winds
unfoldable pub field_lent : List ℕ
unfolding element_length
field_lent = replicate (8 * (128 * element_length quadratic + 1)) 0

abbrev pub wind_lent : List ℤ
wind_lent = replicate (2 * 128) (pos 0)

-- what a program prints that makes a text of a shape, a field and a wind
module _ (made : Shape → List ℕ → List ℤ → Answer (List ℕ)) where
  unfoldable pub printed : List ℕ → List ℕ → List ℤ → List ℕ
  unfolding file_reply text_of read_field read_wind
  printed file field wind = text_of (next (file_reply file field wind) (λ g. made g (read_field quadratic file field wind) (read_wind quadratic file field wind)))

  unfoldable pub printed_for : List ℕ → List ℕ
  unfolding printed field_lent
  printed_for file = printed file field_lent wind_lent

-- "steps each smoke once in order and prints"
unfoldable pub steps : Shape → List ℕ → List ℤ → Answer (List ℕ)
unfolding up_to
steps g field wind = next (up_to g wind g.tracers field) (λ p. accepted p.text)

unfoldable pub output : List ℕ → List ℕ
unfolding printed_for steps
output file = printed_for steps file

-- document 02, 2026-03: "each smoke on paper", in order. A field that was read is sound, so that no map of it is refused
unfoldable pub pages : Shape → List ℕ → List ℤ → Answer (List ℕ)
unfolding blocks page_text part
pages g field wind = accepted (blocks g.tracers (λ s. page_text quadratic g (part quadratic g s field)))

unfoldable pub map_output : List ℕ → List ℕ
unfolding printed_for pages
map_output file = printed_for pages file
