-- Fluxes cut by outflows and masses, each a list by the faces' or the elements' numbers.
use Rattle.std.specs.Prelude.{List, ℕ, ◌<◌, ◌≡◌, ℤ, pos, length, ◌≤ℤ◌}
use Rattle.whole.specs.Table.{at}
use Rattle.whole.specs.Bound.{Within}
use Rattle.whole.specs.Parts.{positive}
use Rattle.rules.specs.declared.Shape.{Shape}
use Rattle.rules.specs.Field.{elements, faces, limit}
use Rattle.rules.specs.Correction.{donor, limited_flux}
use Rattle.rules.specs.Sizes.{flux_size, outflow_size}

-- z is from 0 to n
pub record NotNegative (n : ℕ) (z : ℤ) : Type 0 where
  pub above : pos 0 ≤ℤ z
  pub small : Within n z

-- the limited flux of face f, from the fluxes, outflows and masses
abbrev pub limited_face : Shape → List ℤ → List ℤ → List ℤ → ℕ → ℤ
limited_face g fluxes outflows masses = limited_flux (donor g (at fluxes)) (λ e. positive (at masses e)) (at fluxes) (λ e. positive (at outflows e))

-- what is lent before the fluxes are cut; what is cut fits the report
pub record Amounts (g : Shape) (fluxes outflows masses : List ℤ) : Type 0 where
  pub all-faces : length fluxes ≡ faces g
  pub all-outflows : length outflows ≡ elements g
  pub all-masses : length masses ≡ elements g
  pub flux-sizes : (f : ℕ) → f < faces g → Within flux_size (at fluxes f)
  pub outflow-sizes : (e : ℕ) → e < elements g → NotNegative outflow_size (at outflows e)
  pub mass-sizes : (e : ℕ) → e < elements g → NotNegative limit (at masses e)
  pub cut-sizes : (f : ℕ) → f < faces g → Within limit (limited_face g fluxes outflows masses f)
