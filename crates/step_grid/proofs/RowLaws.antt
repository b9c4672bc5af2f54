-- The rows of a grid: where an element and a face of a row stand, and what all rows make together, as a list and as a sum.
use mathlib.Core.Path.{◌≡◌, sym, ap, ◌∙◌}
use mathlib.Core.List.{List}
use Prim.Native.Nat.{ℕ, zero, suc, ◌+◌, ◌-◌, ◌*◌, ◌%◌, ◌≤◌, ◌<◌}
use native.Mathlib.Nat.{mul_comm, zero-mul, suc-mul, div-add-mod', add-mul-mod_self_left}
use native.Mathlib.Omega.{arith}
use lib.Arith.{digits_mod}
use Rattle.whole.specs.Sum.{sum}
use Rattle.whole.specs.Table.{table, blocks}
use Rattle.whole.proofs.ListParts.{blocks-of-blocks}
use Rattle.whole.proofs.SumLaws.{sum-split}
use Rattle.whole.proofs.TableLaws.{blocks-table, table-cong}
use Rattle.rules.specs.declared.Shape.{Shape}
use Rattle.rules.specs.Field.{elements, faces}
use Rattle.rules.proofs.ShapeLaws.{row_room}

-- ---- one row
module _ (g : Shape) (j : ℕ) {i : ℕ} (l : i < g.nx) where
  pub element-inside : j < g.ny → j * g.nx + i < elements g
  element-inside h = omega (arith, row_room g.nx g.ny j h)

  pub face-inside : j < 2 * g.ny → j * g.nx + i < faces g
  face-inside h = omega (arith, row_room g.nx (2 * g.ny) j h, mul_comm g.ny g.nx)

  pub column-is : i ≡ (j * g.nx + i) % g.nx
  column-is = sym (digits_mod j l)

-- the column of the element that owns a north face is the face's
pub owner-column : (g : Shape) (f n : ℕ) → n ≡ elements g → n ≤ f → (f - n) % g.nx ≡ f % g.nx
owner-column g f n e h = sym (add-mul-mod_self_left (f - n) g.nx g.ny) ∙ ap (λ x. x % g.nx) (omega arith)

-- ---- all rows: the elements of ny of them, the faces of twice as many
pub element-rows : (g : Shape) → g.ny * g.nx ≡ elements g
element-rows g = mul_comm g.ny g.nx

pub face-rows : (g : Shape) → 2 * g.ny * g.nx ≡ faces g
face-rows g = omega (arith, mul_comm g.ny g.nx)

module _ {A : Type 0} where
  pub rows-table : (n w : ℕ) (f : ℕ → A) → 0 < w → blocks n (λ j. table w (λ i. f (j * w + i))) ≡ table (n * w) f
  rows-table n w f h = blocks-table w (λ j i. f (j * w + i)) h n ∙ table-cong (n * w) _ _ (λ i _. ap f (div-add-mod' i w))

pub rows-sum : (n w : ℕ) (f : ℕ → ℕ) → sum n (λ j. sum w (λ i. f (j * w + i))) ≡ sum (n * w) f
unfolding sum
rows-sum zero w f = ap (λ k. sum k f) (sym (zero-mul w))
rows-sum (suc n) w f = ap (λ s. s + sum w (λ i. f (n * w + i))) (rows-sum n w f) ∙ sym (sum-split (n * w) w f) ∙ ap (λ k. sum k f) (sym (suc-mul n w))

module _ {A : Type 0} (w rows n : ℕ) (e : rows * w ≡ n) where
  -- rows of blocks
  pub rows-blocks : (f : ℕ → List A) → blocks rows (λ j. blocks w (λ i. f (j * w + i))) ≡ blocks n f
  rows-blocks f = blocks-of-blocks rows w f ∙ ap (λ k. blocks k f) e
