-- Document 02, 2026-03, "A map on the printer": the page of one tracer as bytes, line by line, and the reading that writes it.
use Rattle.std.specs.Prelude.{◌≡◌, ◌&&◌, List, [], ◌∷◌, ◌++◌, ℕ, ◌+◌, ◌*◌, ◌-◌, ◌/◌, leb, ltb, length}
use Rattle.std.proofs.Math.Bool.{cond}
use Rattle.whole.specs.Table.{blocks, overwrite}
use Rattle.rules.specs.declared.Shape.{Shape}
use Rattle.rules.specs.Answers.{Answer, Check, check, answer, after}
use Rattle.rules.specs.Field.{Kind, admitted, element, field_length, part, mass, total, sound, if_there}
use Rattle.rules.specs.Text.{decimal_by, decimal, newline, blanks, right_aligned}

-- ---- the page
-- "in blocks of seven columns of elements, west first": place c of block b is column 7 b + c of the grid
abbrev pub column_of : ℕ → ℕ → ℕ
column_of b c = 7 * b + c

-- as many blocks as nx columns need: nx / 7, rounded up
unfoldable pub block_count : Shape → ℕ
block_count g = (g.nx + 6) / 7

module _ (g : Shape) where
  -- a line's number for column i, "right-aligned in ten"; "blanks for missing columns"
  unfoldable pub column_text : (ℕ → ℕ) → ℕ → List ℕ
  unfolding decimal_by right_aligned
  column_text number i = cond (ltb i g.nx) (right_aligned 10 (decimal (number i))) (blanks 10)

  -- a line of block b: what comes before the columns, its seven columns, and the newline
  unfoldable pub block_line : List ℕ → (ℕ → ℕ) → ℕ → List ℕ
  unfolding blocks column_text
  block_line first number b = first ++ (blocks 7 (λ c. column_text number (column_of b c)) ++ newline)

  -- "A block's first line has three blanks, then each i, right-aligned in ten."
  unfoldable pub header_line : ℕ → List ℕ
  unfolding block_line
  header_line b = block_line (blanks 3) (λ i. i) b

-- "one line has "sum" and the total right-aligned in 70"
abbrev pub sum_word : List ℕ
sum_word = 115 ∷ 117 ∷ 109 ∷ []

unfoldable pub sum_line : ℕ → List ℕ
unfolding decimal_by right_aligned
sum_line sum = sum_word ++ (right_aligned 70 (decimal sum) ++ newline)

module _ (κ : Kind) (g : Shape) (p : List ℕ) where
  -- "one line per j ..: j right-aligned in three, each M in ten"
  unfoldable pub row_line : ℕ → ℕ → List ℕ
  unfolding decimal_by right_aligned block_line mass
  row_line b j = block_line g (right_aligned 3 (decimal j)) (λ i. mass κ p (element g i j)) b

  -- "Then comes one line per j, northmost first"
  unfoldable pub block_text : ℕ → List ℕ
  unfolding blocks header_line row_line
  block_text b = header_line g b ++ blocks g.ny (λ n. row_line b (g.ny - (n + 1)))

  -- "After the last block, one line has "sum" and the total"
  unfoldable pub page_text : List ℕ
  unfolding blocks block_count block_text sum_line total
  page_text = blocks (block_count g) block_text ++ sum_line (total κ g p)

-- how many lines a page has, and how many bytes
abbrev pub page_lines : Shape → ℕ
page_lines g = block_count g * (g.ny + 1) + 1

unfoldable pub page_length : Shape → ℕ
unfolding block_count
page_length g = page_lines g * 74

-- ---- the call: "It's a reading, and its number is the bytes written."
module _ (κ : Kind) (g : Shape) (s : ℕ) (field page : List ℕ) where
  -- 4 of the field and of the page; document 02, 2026-06: "Step, the printed map, .. still sum", so 6 is of all numbers; 7
  abbrev pub map_checks : List Check
  map_checks =
      check 2 (admitted g) ∷ check 4 (leb (field_length κ g) (length field) && leb (page_length g) (length page))
      ∷ check 6 (if_there (ltb s g.tracers) (sound κ g (part κ g s field))) ∷ check 7 (ltb s g.tracers) ∷ []

  unfoldable pub map_reading : Answer ℕ
  unfolding answer admitted field_length page_length if_there sound part page_text
  map_reading = answer map_checks (length (page_text κ g (part κ g s field)))

  -- the page after it; surplus stays
  unfoldable pub map_page : List ℕ
  unfolding map_reading after overwrite
  map_page = after map_reading (overwrite 0 (page_text κ g (part κ g s field)) page) page

  -- what it gives: what is told of its answer, and the page at exit
  abbrev pub MapGives : (Answer ℕ → Type 0) → List ℕ → Type 0
  MapGives told page' = told map_reading × (page' ≡ map_page)
