-- Where each number stands on the page of a map: every line is 74 bytes, and a line's columns are ten bytes each, after three.
use mathlib.Core.Path.{◌≡◌, refl, sym, ap, ◌∙◌}
use mathlib.Core.List.{List, ◌++◌}
use Prim.Native.Nat.{ℕ, ◌+◌, ◌*◌, ◌-◌, ◌/◌, ◌%◌, ◌^◌, ◌≤◌, ◌<◌}
use native.Mathlib.Nat.{mul_assoc, div-add-mod}
use native.Mathlib.Omega.{arith}
use lib.Arith.{digits_lt}
use lib.ListN.{length, get_or, get_or-append}
use lib.Seq.{get_or-append-add}
use Rattle.whole.specs.Table.{blocks}
use Rattle.whole.proofs.TableLaws.{length-blocks, get_d-blocks}
use Rattle.rules.specs.declared.Shape.{Shape}
use Rattle.rules.specs.Field.{Kind, Admitted, element, mass, total, limit}
use Rattle.rules.specs.Text.{decimal, newline, right_aligned}
use Rattle.rules.specs.Map.{column_of, block_count, column_text, block_line, header_line, sum_word, sum_line, row_line, block_text, page_text}
use Rattle.rules.proofs.TextLaws.{Characters, characters-blanks, characters-number}
use Rattle.rules.proofs.MapLaws.{column-there, column-characters, header-line, row_first, row_small, row-line, block-lines}

-- byte d of column i's ten, in any line of the column's block
abbrev pub in_line : ℕ → ℕ → ℕ
in_line i d = 3 + (i % 7 * 10 + d)

-- a byte of the second of two texts, the first of which has n bytes
second_at : (n : ℕ) (a b : List ℕ) (k : ℕ) → length a ≡ n → get_or (a ++ b) (n + k) 0 ≡ get_or b k 0
second_at n a b k h = ap (λ m. get_or (a ++ b) (m + k) 0) (sym h) ∙ get_or-append-add a b k 0

-- byte k of block b of n blocks of w bytes, whatever comes after them
block_at : (w : ℕ) (f : ℕ → List ℕ) (rest : List ℕ) → ((b : ℕ) → length (f b) ≡ w) → (n b k : ℕ) → b < n → k < w → get_or (blocks n f ++ rest) (b * w + k) 0 ≡ get_or (f b) k 0
block_at w f rest each n b k hb hk =
    get_or-append (blocks n f) rest 0 (b * w + k) (omega (arith, digits_lt hb hk, length-blocks w f each n)) ∙ get_d-blocks w f each n b k 0 hb hk

-- column i's number in a line of its block
line_at : (g : Shape) {first : List ℕ} (number : ℕ → ℕ) → Characters 3 first → ((i : ℕ) → i < g.nx → number i < 10 ^ 10) → (i d : ℕ) → i < g.nx → d < 10
    → get_or (block_line g first number (i / 7)) (in_line i d) 0 ≡ get_or (right_aligned 10 (decimal (number i))) d 0
unfolding block_line
line_at g {first} number three few i d hi hd =
    let column : ℕ → List ℕ = λ c. column_text g number (column_of (i / 7) c) in
    second_at 3 first (blocks 7 column ++ newline) (i % 7 * 10 + d) three.long
    ∙ block_at 10 column newline (λ c. (column-characters g number (column_of (i / 7) c) (few (column_of (i / 7) c))).long) 7 (i % 7) d (omega arith) hd
    ∙ ap (λ c. get_or (column_text g number c) d 0) (div-add-mod i 7) ∙ ap (λ l. get_or l d 0) (column-there g number i hi)

module _ (κ : Kind) (g : Shape) (p : List ℕ) (s : Admitted g) (small : total κ g p ≤ limit) where
  -- byte k of the block that has column i, at its place on the page
  page-at : (i k place : ℕ) → i < g.nx → k < (g.ny + 1) * 74 → place ≡ i / 7 * (g.ny + 1) * 74 + k → get_or (page_text κ g p) place 0 ≡ get_or (block_text κ g p (i / 7)) k 0
  unfolding page_text block_count
  page-at i k place hi hk e = ap (λ m. get_or (page_text κ g p) m 0) (e ∙ omega (arith, mul_assoc (i / 7) (g.ny + 1) 74))
      ∙ block_at ((g.ny + 1) * 74) (block_text κ g p) (sum_line (total κ g p)) (λ b. (block-lines κ g p s small b).long) (block_count g) (i / 7) k (omega arith) hk

  -- column i's number stands in the first line of its block
  pub column-at : (i d : ℕ) → i < g.nx → d < 10 → get_or (page_text κ g p) (i / 7 * (g.ny + 1) * 74 + in_line i d) 0 ≡ get_or (right_aligned 10 (decimal i)) d 0
  unfolding block_text header_line
  column-at i d hi hd = page-at i (in_line i d) _ hi (omega arith) refl
      ∙ get_or-append (header_line g (i / 7)) (blocks g.ny (λ n. row_line κ g p (i / 7) (g.ny - (n + 1)))) 0 (in_line i d) (omega (arith, (header-line g s (i / 7)).long))
      ∙ line_at g (λ c. c) (characters-blanks 3) (λ c h. omega arith) i d hi hd

  -- element (i, j)'s number stands in the line of row j, which is ny - j lines below that one
  pub element-at : (i j d : ℕ) → i < g.nx → j < g.ny → d < 10
      → get_or (page_text κ g p) ((i / 7 * (g.ny + 1) + (g.ny - j)) * 74 + in_line i d) 0 ≡ get_or (right_aligned 10 (decimal (mass κ p (element g i j)))) d 0
  unfolding block_text row_line
  element-at i j d hi hj hd =
      let row : ℕ → List ℕ = λ n. row_line κ g p (i / 7) (g.ny - (n + 1)) in
      let n : ℕ = g.ny - (j + 1) in
      let is : g.ny - (n + 1) ≡ j = omega arith in
      page-at i (74 + (n * 74 + in_line i d)) _ hi (omega arith) (omega arith)
      ∙ second_at 74 (header_line g (i / 7)) (blocks g.ny row) (n * 74 + in_line i d) (header-line g s (i / 7)).long
      ∙ get_d-blocks 74 row (λ m. (row-line κ g p s small (g.ny - (m + 1)) (omega arith) (i / 7)).long) g.ny n (in_line i d) 0 (omega arith) (omega arith)
      ∙ ap (λ m. get_or (row_line κ g p (i / 7) m) (in_line i d) 0) is
      ∙ line_at g (λ c. mass κ p (element g c j)) (row_first κ g p s small j hj) (row_small κ g p s small j hj) i d hi hd

  -- the total stands in the last line, after its word
  pub sum-at : (d : ℕ) → d < 70 → get_or (page_text κ g p) (block_count g * (g.ny + 1) * 74 + (3 + d)) 0 ≡ get_or (right_aligned 70 (decimal (total κ g p))) d 0
  unfolding page_text sum_line
  sum-at d hd =
      let sum = right_aligned 70 (decimal (total κ g p)) in
      let long : length sum ≡ 70 = (characters-number 70 9 (total κ g p) (omega arith) (omega arith) (omega arith)).long in
      let before : length (blocks (block_count g) (block_text κ g p)) ≡ block_count g * (g.ny + 1) * 74 =
      length-blocks ((g.ny + 1) * 74) (block_text κ g p) (λ b. (block-lines κ g p s small b).long) (block_count g) ∙ sym (mul_assoc (block_count g) (g.ny + 1) 74) in
      second_at (block_count g * (g.ny + 1) * 74) (blocks (block_count g) (block_text κ g p)) (sum_line (total κ g p)) (3 + d) before
      ∙ second_at 3 sum_word (sum ++ newline) d refl ∙ get_or-append sum newline 0 d (omega (arith, long))
