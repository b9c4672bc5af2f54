-- The numbers of a line, and the length of a page by its blocks.
use mathlib.Core.Path.{◌≡◌, subst}
use Prim.Native.Nat.{ℕ, ◌+◌, ◌*◌, ◌^◌, ◌≤◌, ◌<◌}
use native.Mathlib.Nat.{mul_assoc}
use native.Mathlib.Omega.{arith}
use Rattle.rules.specs.declared.Shape.{Shape}
use Rattle.rules.specs.Field.{quadratic, Admitted}
use Rattle.rules.specs.Map.{block_count, page_length}
use Rattle.rules.proofs.MapLaws.{row_small, lines-few}
use Rattle.map_lines.specs.PageLines.{There, line_number}
use Rattle.map_lines.specs.PageNumbers.{page_part}
use Rattle.map_lines.specs.declared.TracerPage.{TracerPage}
use Rattle.map_lines.specs.declared.BlockLine.{BlockLine}
use Rattle.map_lines.specs.declared.BlockLine.TheVariants.{Header, Row}

-- the row of a line that is there
pub row-there : (g : Shape) (l : BlockLine) {j : ℕ} → l ≡ Row j → There g l → j < g.ny
row-there g l e t = subst (There g) e t

-- the number of a line has ten digits at most
pub number-small : (p : TracerPage) (l : BlockLine) → There p.grid.shape l → (i : ℕ) → i < p.grid.shape.nx → line_number p.grid.shape (page_part p) l i < 10 ^ 10
number-small p Header t i c = omega (arith, p.grid.admitted.nx-small)
number-small p (Row j) t i c = row_small quadratic p.grid.shape (page_part p) p.grid.admitted p.printable.small j t i c

-- a page is its blocks and the line of the sum
pub page-is : (g : Shape) → block_count g * ((g.ny + 1) * 74) + 74 ≡ page_length g
unfolding page_length
page-is g = omega (arith, mul_assoc (block_count g) (g.ny + 1) 74)

-- a page has at most 651 lines
pub lines-above : (g : Shape) → Admitted g → (n : ℕ) → n ≡ block_count g → n * (g.ny + 1) ≤ 650
lines-above g h n e = rw e (lines-few g h)
