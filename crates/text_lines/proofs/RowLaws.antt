-- Where the faces of a row stand in the report. The faces that look one way are a half of it, and its rows are the grid's.
use mathlib.Core.Path.{◌≡◌, refl, sym, ap, ◌∙◌}
use mathlib.Core.List.{List, ◌++◌}
use Prim.Native.Nat.{ℕ, suc, ◌+◌, ◌*◌, ◌-◌, ◌/◌, ◌≤◌, ◌<◌}
use native.Mathlib.Nat.{mul_comm, suc-mul, mul-div_cancel, add-mul-div_right, mul-le-mul_right, lt_of_mul-lt-mul_right}
use native.Mathlib.Omega.{arith}
use lib.IntN.{ℤ, pos}
use lib.ListN.{length, take, drop, length-append, length-drop}
use lib.Seq.{get_or-take, get_or-drop}
use Rattle.std.proofs.lemmas.List.{take_at, drop_at, drop-drop}
use Rattle.whole.specs.Table.{blocks, at}
use Rattle.whole.proofs.TableLaws.{blocks-cong}
use Rattle.whole.proofs.OverwriteLaws.{part-size}
use Rattle.rules.specs.declared.Shape.{Shape}
use Rattle.rules.specs.declared.Way.{Way}
use Rattle.rules.specs.declared.Way.TheVariants.{East, North}
use Rattle.rules.specs.Field.{elements, faces}
use Rattle.rules.specs.Grid.{face_index}
use Rattle.rules.specs.Program.{face_line, face_row}
use Rattle.rules.proofs.GridLaws.{element-lt}
use Rattle.text.specs.declared.Text.{Text}
use Rattle.text.specs.Adds.{Adds}
use Rattle.text.proofs.AddsLaws.{same_bytes, wider}

-- the faces of a row follow one another
pub face-is : (g : Shape) (way : Way) (i j : ℕ) → face_index g way 0 j + i ≡ face_index g way i j
face-is g East i j = omega arith
face-is g North i j = omega arith

-- the line of face i of a row whose first face is number `first` of the report
abbrev pub line_from : ℕ → Way → List ℤ → ℕ → ℕ → ℕ → List ℕ
line_from s way report j first i = face_line s way i j (at report (first + i))

pub row_is : (g : Shape) (s : ℕ) (way : Way) (report : List ℤ) (j first : ℕ) → first ≡ face_index g way 0 j → blocks g.nx (line_from s way report j first) ≡ face_row g s way report j
unfolding face_row
row_is g s way report j first h = blocks-cong g.nx (line_from s way report j first) (λ i. face_line s way i j (at report (face_index g way i j)))
    (λ i _. ap (λ k. face_line s way i j (at report k)) (ap (λ n. n + i) h ∙ face-is g way i j))

-- the faces that look one way follow one another, row by row
pub face-in-half : (g : Shape) (way : Way) (i j : ℕ) → face_index g way 0 0 + (j * g.nx + i) ≡ face_index g way i j
face-in-half g East i j = omega arith
face-in-half g North i j = omega arith

first-le : (g : Shape) (way : Way) → face_index g way 0 0 ≤ elements g
first-le g East = omega arith
first-le g North = omega arith

-- the rows of the faces that look one way, from the first one on
pub record IsHalf (g : Shape) (way : Way) (report half : List ℤ) : Type 0 where
  pub size : length half ≡ g.ny * g.nx
  pub numbers : (i j : ℕ) → i < g.nx → j < g.ny → at half (j * g.nx + i) ≡ at report (face_index g way i j)

-- n numbers of the report from the first face's place on
module _ (g : Shape) (way : Way) (report : List ℤ) (start n : ℕ) (hs : start ≡ face_index g way 0 0) (hn : n ≡ elements g) (room : faces g ≤ length report) where
  pub half-is : IsHalf g way report (take (start + n - start) (drop start report))
  half-is = record {
    size = part-size (g.ny * g.nx) start (start + n - start) report (omega (arith, hn, mul_comm g.nx g.ny)) (omega (arith, hs, first-le g way, room, mul_comm g.nx g.ny));
    numbers = λ i j l m. get_or-take (start + n - start) (drop start report) (j * g.nx + i) (pos 0) (omega (arith, hn, element-lt g i j l m)) ∙ get_or-drop start report (j * g.nx + i) (pos 0)
        ∙ ap (at report) (ap (λ k. k + (j * g.nx + i)) hs ∙ face-in-half g way i j);
  }

module _ {g : Shape} {way : Way} {report half : List ℤ} (w : IsHalf g way report half) (above : 0 < g.nx) where
  -- the rows from row j on
  module _ {j : ℕ} {left : List ℤ} (within : j ≤ g.ny) (rest : left ≡ drop (j * g.nx) half) where
    left-long : length left + j * g.nx ≡ g.ny * g.nx
    left-long = omega (arith, ap length rest, length-drop (j * g.nx) half, w.size, mul-le-mul_right g.nx within)

    pub rows-left : (size : ℕ) → size ≡ g.nx → j + length left / size ≡ g.ny
    rows-left size e = omega (arith, ap (λ k. length left / k) e, sym (add-mul-div_right (length left) j above) ∙ ap (λ k. k / g.nx) left-long ∙ mul-div_cancel g.ny above)

    -- no row is left
    pub none-left : length left < g.nx → j ≡ g.ny
    none-left h = let most : g.ny < suc j = lt_of_mul-lt-mul_right g.nx (omega (arith, left-long, suc-mul j g.nx)) in omega (arith, within)

    -- row j, and the rows behind it
    module _ (row left' : List ℤ) (e : left ≡ row ++ left') (h : length row ≡ g.nx) where
      pub there : j < g.ny
      there = lt_of_mul-lt-mul_right g.nx (omega (arith, left-long, ap length e, length-append row left', above))

      pub next-rest : left' ≡ drop ((j + 1) * g.nx) half
      next-rest = sym (drop_at row left' g.nx h) ∙ ap (drop g.nx) (sym e ∙ rest) ∙ drop-drop g.nx (j * g.nx) half ∙ ap (λ k. drop k half) (omega (arith, suc-mul j g.nx))

      number-is : (i : ℕ) → i < g.nx → at row i ≡ at report (face_index g way i j)
      number-is i l =
          let is : row ≡ take g.nx (drop (j * g.nx) half) = sym (take_at row left' g.nx h) ∙ ap (take g.nx) (sym e ∙ rest) in
          ap (λ r. at r i) is ∙ get_or-take g.nx (drop (j * g.nx) half) i (pos 0) l ∙ get_or-drop (j * g.nx) half i (pos 0) ∙ w.numbers i j l there

      pub row-of-half : (s : ℕ) → blocks (length row) (λ i. face_line s way i j (at row i)) ≡ face_row g s way report j
      row-of-half s = ap (λ k. blocks k (λ i. face_line s way i j (at row i))) h
          ∙ blocks-cong g.nx _ (line_from s way report j (face_index g way 0 j)) (λ i l. ap (face_line s way i j) (number-is i l ∙ sym (ap (at report) (face-is g way i j))))
          ∙ row_is g s way report j (face_index g way 0 j) refl

      pub row-added : (s : ℕ) {old new : Text} → Adds (length row * 96) (blocks (length row) (λ i. face_line s way i j (at row i))) old new → Adds (g.nx * 96) (face_row g s way report j) old new
      row-added s p = same_bytes (row-of-half s) (wider p (g.nx * 96) (omega (arith, h)))
