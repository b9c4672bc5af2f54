-- Document 01, "Field file", and document 02, 2026-06: the bytes of a field, what reading and writing them answer, and what they leave in the buffers.
use Rattle.std.specs.Prelude.{◌≡◌, Bool, ◌&&◌, ◌||◌, List, [], ◌∷◌, ◌++◌, ℕ, ◌+◌, ◌*◌, ◌-◌, leb, ℤ, length, get_or}
use Rattle.std.proofs.Math.Bool.{cond}
use Rattle.std.proofs.Math.Dec.{eqb}
use Rattle.whole.specs.Sum.{all}
use Rattle.whole.specs.Table.{table, blocks, overwrite}
use Rattle.rules.specs.declared.Shape.{Shape}
use Rattle.rules.specs.declared.Mark.{Mark}
use Rattle.rules.specs.declared.Mark.TheVariants.{Plum, Plu2}
use Rattle.rules.specs.Answers.{Answer, Check, check, answer, after}
use Rattle.rules.specs.Field.{Kind, admitted, faces, elements_length, part_length, field_length, part, part_of, total, sound}
use Rattle.rules.specs.Bytes.{byte_at, bytes32, number32, bytes16, number16}
use Rattle.rules.specs.Calls.{wind_at, wind_sound}

-- ---- the two marks: document 01's "the mark, the four bytes "PLUM"", and document 02's "the mark becomes "PLU2"", 2026-06
abbrev pub mark_bytes : Mark → List ℕ
mark_bytes Plum = 80 ∷ 76 ∷ 85 ∷ 77 ∷ []
mark_bytes Plu2 = 80 ∷ 76 ∷ 85 ∷ 50 ∷ []

-- ---- layout: "Wind section, then one section per smoke (ten u32 an element), then a table of K + 1 u32 offsets (wind, then each
-- smoke), then the 12-byte tail"
module _ (κ : Kind) where
  -- how many numbers a tracer's section has: "The file's smoke section ends with the total" where the mark is "PLU2"
  unfoldable pub section_length : Mark → Shape → ℕ
  unfolding elements_length part_length
  section_length Plum g = elements_length κ g
  section_length Plu2 g = part_length κ g

module _ (κ : Kind) (m : Mark) (g : Shape) where
  -- where section i starts: the wind's is section 0, tracer s's is section s + 1, and the table comes after the last
  unfoldable pub section_start : ℕ → ℕ
  unfolding section_length
  section_start i = cond (eqb i 0) 0 (2 * faces g + (i - 1) * (4 * section_length κ m g))

  unfoldable pub table_start : ℕ
  unfolding section_start
  table_start = section_start (g.tracers + 1)

  unfoldable pub file_length : ℕ
  unfolding table_start
  file_length = table_start + 4 * (g.tracers + 1) + 12

  -- "nx, ny, K, 0, the table's offset as u32, and the mark"
  unfoldable pub tail : List ℕ
  unfolding table_start bytes32
  tail = (g.nx ∷ g.ny ∷ g.tracers ∷ 0 ∷ []) ++ (bytes32 table_start ++ mark_bytes m)

  -- the section of a part's numbers, "PLUM"'s without the total
  unfoldable pub section_of : List ℕ → List ℕ
  unfolding blocks bytes32 section_length
  section_of p = blocks (section_length κ m g) (λ i. bytes32 (get_or p i 0))

  -- the file of a field and a wind with this mark
  unfoldable pub file_of : List ℕ → List ℤ → List ℕ
  unfolding blocks bytes16 bytes32 section_of part section_start tail
  file_of field wind =
      blocks (faces g) (λ f. bytes16 (wind_at wind f)) ++ (blocks g.tracers (λ s. section_of (part κ g s field))
      ++ (blocks (g.tracers + 1) (λ i. bytes32 (section_start i)) ++ tail))

-- ---- reading: "The reader starts at the end."
-- the shape that the tail gives
unfoldable pub tail_shape : List ℕ → Shape
tail_shape file = record { nx = byte_at file (length file - 12); ny = byte_at file (length file - 11); tracers = byte_at file (length file - 10) }

-- whether a file ends with a mark, and which of the two it is then: ""PLUM" is still read"
unfoldable pub ends_with : Mark → List ℕ → Bool
ends_with m file = all 4 (λ i. eqb (byte_at file (length file - 4 + i)) (get_or (mark_bytes m) i 0))

unfoldable pub tail_mark : List ℕ → Mark
unfolding ends_with
tail_mark file = cond (ends_with Plum file) Plum Plu2

-- 1: "fewer than 12 bytes, wrong mark, or fourth tail byte not 0"
unfoldable pub tail_right : List ℕ → Bool
unfolding ends_with
tail_right file = leb 12 (length file) && ((ends_with Plum file || ends_with Plu2 file) && eqb (byte_at file (length file - 9)) 0)

-- the wind that a file of shape g holds
unfoldable pub file_wind : Shape → List ℕ → List ℤ
unfolding table number16
file_wind g file = table (faces g) (λ f. number16 file (2 * f))

module _ (κ : Kind) where
  -- 3: "offsets or length differ from what the shape gives", by the mark's layout
  unfoldable pub offsets_right : Mark → Shape → List ℕ → Bool
  unfolding file_length table_start section_start number32 all
  offsets_right m g file = eqb (length file) (file_length κ m g)
      && (eqb (number32 file (length file - 8)) (table_start κ m g) && all (g.tracers + 1) (λ i. eqb (number32 file (table_start κ m g + 4 * i)) (section_start κ m g i)))

  -- the numbers of tracer s's section
  unfoldable pub section_numbers : Mark → Shape → List ℕ → ℕ → List ℕ
  unfolding table number32 section_length section_start
  section_numbers m g file s = table (section_length κ m g) (λ i. number32 file (section_start κ m g (s + 1) + 4 * i))

  -- the part that a section's numbers make: "PLUM"'s have "totals worked out"
  unfoldable pub part_from : Mark → Shape → List ℕ → List ℕ
  unfolding part_of total
  part_from Plum g numbers = part_of numbers (total κ g numbers)
  part_from Plu2 g numbers = numbers

  -- the field that a file of mark m and shape g holds, section after section
  unfoldable pub file_field : Mark → Shape → List ℕ → List ℕ
  unfolding blocks part_from section_numbers
  file_field m g file = blocks g.tracers (λ s. part_from m g (section_numbers m g file s))

  -- 6: "of any smoke in file reading and writing"
  unfoldable pub field_sound : Shape → List ℕ → Bool
  unfolding all sound part
  field_sound g field = all g.tracers (λ s. sound κ g (part κ g s field))

  -- "File reading answers the shape". "Where the tail gives no shape it refuses before looking at a section": by 1 or 2
  abbrev pub read_checks : List ℕ → List ℕ → List ℤ → List Check
  read_checks file field wind =
      let g = tail_shape file in
      let m = tail_mark file in
      check 1 (tail_right file) ∷ check 2 (admitted g) ∷ check 3 (offsets_right m g file) ∷ check 4 (leb (field_length κ g) (length field) && leb (faces g) (length wind))
      ∷ check 5 (wind_sound g (file_wind g file)) ∷ check 6 (field_sound g (file_field m g file)) ∷ []

  unfoldable pub read_reply : List ℕ → List ℕ → List ℤ → Answer Shape
  unfolding answer tail_shape tail_mark tail_right admitted offsets_right field_length wind_sound field_sound file_wind file_field
  read_reply file field wind = answer (read_checks file field wind) (tail_shape file)

  -- field and wind after the call: the file's numbers at the front, surplus left alone
  unfoldable pub read_field : List ℕ → List ℕ → List ℤ → List ℕ
  unfolding read_reply after overwrite tail_mark file_field
  read_field file field wind = after (read_reply file field wind) (overwrite 0 (file_field (tail_mark file) (tail_shape file) file) field) field

  unfoldable pub read_wind : List ℕ → List ℕ → List ℤ → List ℤ
  unfolding read_reply after overwrite file_wind
  read_wind file field wind = after (read_reply file field wind) (overwrite 0 (file_wind (tail_shape file) file) wind) wind

  -- ---- writing: "file writing the file's length in bytes"; "such a file is written again as "PLU2"", as every field is
  abbrev pub write_checks : Shape → List ℕ → List ℤ → List ℕ → List Check
  write_checks g field wind file =
      check 2 (admitted g) ∷ check 4 (leb (field_length κ g) (length field) && (leb (faces g) (length wind) && leb (file_length κ Plu2 g) (length file)))
      ∷ check 5 (wind_sound g wind) ∷ check 6 (field_sound g field) ∷ []

  unfoldable pub write_reply : Shape → List ℕ → List ℤ → List ℕ → Answer ℕ
  unfolding answer admitted field_length file_length wind_sound field_sound
  write_reply g field wind file = answer (write_checks g field wind file) (file_length κ Plu2 g)

  -- the file after the call: its bytes at the front, surplus left alone
  unfoldable pub write_file : Shape → List ℕ → List ℤ → List ℕ → List ℕ
  unfolding write_reply after overwrite file_of
  write_file g field wind file = after (write_reply g field wind file) (overwrite 0 (file_of κ Plu2 g field wind) file) file

-- ---- what reading and writing give, as the calls on a field do: what is told of the answer, and every buffer that was lent for writing
module _ (κ : Kind) where
  abbrev pub ReadGives : List ℕ → List ℕ → List ℤ → (Answer Shape → Type 0) → List ℕ → List ℤ → Type 0
  ReadGives file field wind told field' wind' = told (read_reply κ file field wind) × ((field' ≡ read_field κ file field wind) × (wind' ≡ read_wind κ file field wind))

  abbrev pub WriteGives : Shape → List ℕ → List ℤ → List ℕ → (Answer ℕ → Type 0) → List ℕ → Type 0
  WriteGives g field wind file told file' = told (write_reply κ g field wind file) × (file' ≡ write_file κ g field wind file)
