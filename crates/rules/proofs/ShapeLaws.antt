-- What an admitted shape says: its bounds as facts, the number of its elements, and rows.
use mathlib.Core.Path.{◌≡◌, sym, subst}
use mathlib.Core.Bool.{true}
use Prim.Native.Nat.{ℕ, ◌+◌, ◌*◌, ◌≤◌, ◌<◌}
use native.Mathlib.Nat.{mul-le-mul, mul-le-mul_left, mul-le-mul_right, mul_comm, mul-one, suc-mul}
use native.Mathlib.Omega.{arith}
use lib.Dec.{T, leb, leb→le}
use Rattle.whole.proofs.Cases.{both_yes}
use Rattle.rules.specs.declared.Shape.{Shape}
use Rattle.rules.specs.Field.{admitted, Admitted, from1to, elements}

module _ (g : Shape) where
  pub ranges : T (admitted g) → Admitted g
  unfolding admitted
  ranges t =
      let a = both_yes (from1to 64 g.nx) _ t in
      let b = both_yes (from1to 64 g.ny) _ a.1 in
      let x = both_yes (leb 1 g.nx) _ a.0 in
      let y = both_yes (leb 1 g.ny) _ b.0 in
      let k = both_yes (leb 1 g.tracers) _ b.1 in
      record {
        nx-above = leb→le _ _ x.0;
        nx-small = leb→le _ _ x.1;
        ny-above = leb→le _ _ y.0;
        ny-small = leb→le _ _ y.1;
        tracers-above = leb→le _ _ k.0;
        tracers-small = leb→le _ _ k.1;
      }

  pub admitted-is : admitted g ≡ true → Admitted g
  admitted-is e = ranges (subst T (sym e) tt)

  pub elements-le : Admitted g → elements g ≤ 4096
  elements-le h = mul-le-mul h.nx-small h.ny-small

  pub row-le : Admitted g → g.nx ≤ elements g
  row-le h = omega (arith, mul-le-mul_left g.nx h.ny-above, mul-one g.nx)

-- a row below ny has room for nx elements, and the next row starts after them
pub row_room : (nx ny j : ℕ) → j < ny → j * nx + nx ≤ nx * ny
row_room nx ny j h = omega (arith, mul-le-mul_right nx h, suc-mul j nx, mul_comm nx ny)

-- the last row ends with the last element
pub all-rows : (g : Shape) (j : ℕ) → j ≡ g.ny → j * g.nx ≡ elements g
all-rows g j e = rw e (mul_comm g.ny g.nx)
