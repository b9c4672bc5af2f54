-- The page of a map: every line of it is 73 characters and a newline, and an accepted map answers the number of its bytes.
use mathlib.Core.Path.{◌≡◌, sym, ap, subst, ◌∙◌}
use mathlib.Core.List.{List, ◌∷◌, [], append_assoc}
use Prim.Native.Nat.{ℕ, ◌+◌, ◌*◌, ◌-◌, ◌^◌, ◌≤◌, ◌<◌}
use native.Mathlib.Nat.{mul-le-mul}
use native.Mathlib.Omega.{arith}
use borrow.Author.Tests.{lt-ltb, le-ltb}
use lib.Dec.{ltb, ltb→lt}
use lib.ListN.{length, take, drop}
use lib.Seq.{take_at}
use Rattle.whole.specs.Table.{blocks, overwrite}
use Rattle.whole.proofs.Cases.{cond_ind}
use Rattle.whole.proofs.OverwriteLaws.{front-is}
use Rattle.rules.specs.declared.Shape.{Shape}
use Rattle.rules.specs.Answers.{accepted}
use Rattle.rules.specs.Field.{Kind, Admitted, element, part, mass, total, limit, sound}
use Rattle.rules.specs.Text.{decimal, newline, blanks, right_aligned, Lines}
use Rattle.rules.specs.Map.{column_of, block_count, column_text, block_line, header_line, sum_word, sum_line, row_line, block_text, page_text, page_lines, page_length, map_checks, map_reading, map_page}
use Rattle.rules.proofs.AnswerLaws.{accepted-is, after-accepted}
use Rattle.rules.proofs.PartLaws.{mass-le-total}
use Rattle.rules.proofs.FieldLaws.{total-small, tested}
use Rattle.rules.proofs.GridLaws.{element-lt}
use Rattle.rules.proofs.ShapeLaws.{ranges}
use Rattle.rules.proofs.TextLaws.{Character, Characters, characters-append, characters-repeated, characters-blanks, characters-blocks, characters-number, one_line, lines-append, lines-blocks}

-- ---- columns and blocks
module _ (g : Shape) where
  -- a column that is there, and one that is missing
  pub column-there : (number : ℕ → ℕ) (i : ℕ) → i < g.nx → column_text g number i ≡ right_aligned 10 (decimal (number i))
  unfolding column_text
  column-there number i h = rw (lt-ltb i g.nx h)

  pub column-missing : (number : ℕ → ℕ) (i : ℕ) → g.nx ≤ i → column_text g number i ≡ blanks 10
  unfolding column_text
  column-missing number i h = rw (le-ltb i g.nx h)

  -- no block is without columns
  pub block-starts : (b : ℕ) → b < block_count g → column_of b 0 < g.nx
  unfolding block_count
  block-starts b h = omega arith

-- ---- the lines of a page
module _ (g : Shape) where
  -- a number of at most ten digits, or blanks
  pub column-characters : (number : ℕ → ℕ) (i : ℕ) → (i < g.nx → number i < 10 ^ 10) → Characters 10 (column_text g number i)
  unfolding column_text
  column-characters number i h = cond_ind (ltb i g.nx) (right_aligned 10 (decimal (number i))) (blanks 10) (Characters 10)
      (λ t. characters-number 10 9 (number i) (omega arith) (omega arith) (h (ltb→lt i g.nx t))) (λ _. characters-blanks 10)

  -- a line of a block, where three characters come before its columns
  pub block-line : {first : List ℕ} (number : ℕ → ℕ) (b : ℕ) → Characters 3 first → ((i : ℕ) → i < g.nx → number i < 10 ^ 10) → Lines 1 (block_line g first number b)
  unfolding block_line
  block-line {first} number b p h =
      let column : ℕ → List ℕ = λ c. column_text g number (column_of b c) in
      let columns = characters-blocks 10 column 7 (λ c _. column-characters number (column_of b c) (h (column_of b c))) in
      rw (append_assoc first (blocks 7 column) newline) at (one_line (characters-append p columns))

  pub header-line : Admitted g → (b : ℕ) → Lines 1 (header_line g b)
  unfolding header_line
  header-line s b = block-line (λ i. i) b (characters-blanks 3) (λ i h. omega arith)

pub sum-line : (sum : ℕ) → sum ≤ limit → Lines 1 (sum_line sum)
unfolding sum_line
sum-line sum h = one_line (characters-append word (characters-number 70 9 sum (omega arith) (omega arith) (omega arith)))
  where
    letter : (x : ℕ) → Character x → Characters 1 (x ∷ [])
    letter = characters-repeated 1

    word : Characters 3 sum_word
    word = characters-append (letter 115 (omega arith)) (characters-append (letter 117 (omega arith)) (letter 109 (omega arith)))

module _ (κ : Kind) (g : Shape) (p : List ℕ) (s : Admitted g) (small : total κ g p ≤ limit) where
  -- row j: its own number, and those of its elements
  module _ (j : ℕ) (h : j < g.ny) where
    pub row_first : Characters 3 (right_aligned 3 (decimal j))
    row_first = characters-number 3 2 j (omega arith) (omega arith) (omega arith)

    pub row_small : (i : ℕ) → i < g.nx → mass κ p (element g i j) < 10 ^ 10
    row_small i l = omega (arith, mass-le-total κ g p (element g i j) (element-lt g i j l h))

    pub row-line : (b : ℕ) → Lines 1 (row_line κ g p b j)
    unfolding row_line
    row-line b = block-line g (λ i. mass κ p (element g i j)) b row_first row_small

  pub block-lines : (b : ℕ) → Lines (g.ny + 1) (block_text κ g p b)
  unfolding block_text
  block-lines b = subst (λ n. Lines n (block_text κ g p b)) (omega arith)
      (lines-append (header-line g s b) (lines-blocks 1 (λ n. row_line κ g p b (g.ny - (n + 1))) g.ny (λ n h. row-line (g.ny - (n + 1)) (omega arith) b)))

  -- every line of a page is exactly 73 characters and a newline
  pub page-lines : Lines (page_lines g) (page_text κ g p)
  unfolding page_text
  page-lines = lines-append (lines-blocks (g.ny + 1) (block_text κ g p) (block_count g) (λ b _. block-lines b)) (sum-line (total κ g p) small)

  -- and its bytes are as many as the formula says
  pub page-length : length (page_text κ g p) ≡ page_length g
  unfolding page_length
  page-length = page-lines.long

-- at most ten blocks of 65 lines
pub lines-few : (g : Shape) → Admitted g → block_count g * (g.ny + 1) ≤ 650
unfolding block_count
lines-few g h = mul-le-mul {n₁ = block_count g} {n₂ = 10} {m₂ = 65} (omega (arith, h.nx-small)) (omega (arith, h.ny-small))

-- ---- the call
module _ (κ : Kind) (g : Shape) (s : ℕ) (field page : List ℕ) where
  abbrev text : List ℕ
  text = page_text κ g (part κ g s field)

  -- what an accepted map has shown
  record Mapped (n : ℕ) : Type 0 where
    shape : Admitted g
    small : total κ g (part κ g s field) ≤ limit
    number : n ≡ length text

  mapped : (n : ℕ) → map_reading κ g s field page ≡ accepted n → Mapped n
  unfolding map_reading
  mapped n e =
      let answered = accepted-is (map_checks κ g s field page) n (length text) (sym e) in
      let passed = answered.0 in
      record {
        shape = ranges g passed.0;
        small = total-small κ g (part κ g s field) (tested (ltb s g.tracers) (sound κ g (part κ g s field)) passed.1.1.1.0 passed.1.1.0);
        number = answered.1;
      }

  module _ (n : ℕ) (e : map_reading κ g s field page ≡ accepted n) where
    -- it answers the formula's number, and what it wrote are so many lines of 73 characters and a newline
    pub map-shown : (n ≡ page_length g) × Lines (page_lines g) (take n (map_page κ g s field page))
    unfolding map_page
    map-shown =
        let m = mapped n e in
        let written : take n (map_page κ g s field page) ≡ text =
        ap (take n) (after-accepted (map_reading κ g s field page) n (overwrite 0 text page) page e ∙ front-is text page) ∙ take_at text (drop (length text) page) n (sym m.number) in
        (m.number ∙ page-length κ g (part κ g s field) m.shape m.small, subst (Lines (page_lines g)) (sym written) (page-lines κ g (part κ g s field) m.shape m.small))

    pub map-small : n ≤ limit
    unfolding page_length
    map-small = omega (arith, map-shown.0, lines-few g (mapped n e).shape)
