-- The end of a step: targets from masses and the report, values with held flux, and every element closed.
use Rattle.std.specs.Prelude.{◌≡◌, List, ℕ, ◌<◌, ℤ, length}
use Rattle.whole.specs.Table.{at}
use Rattle.whole.specs.Bound.{AllWithin}
use Rattle.whole.specs.Parts.{positive, negative}
use Rattle.rules.specs.declared.Shape.{Shape}
use Rattle.rules.specs.Field.{quadratic, elements, faces, limit}
use Rattle.rules.specs.Limiter.{Closed, closed}
use Rattle.rules.specs.Correction.{target}
use Rattle.rules.specs.HeldFlux.{with_held_flux}
use Rattle.rules.specs.Sizes.{tentative_size, rise_size}
use Rattle.step_upwind.specs.Upwind.{stage_length, as_stage}
use Rattle.step_correction.specs.Amounts.{NotNegative}

-- element e's mass, as it is lent
abbrev pub mass_of : List ℤ → ℕ → ℕ
mass_of masses e = positive (at masses e)

-- masses and report before every element is closed; no target is below 0
pub record Balance (g : Shape) (masses report : List ℤ) : Type 0 where
  pub all-masses : length masses ≡ elements g
  pub mass-sizes : (e : ℕ) → e < elements g → NotNegative limit (at masses e)
  pub all-fluxes : length report ≡ faces g
  pub flux-sizes : AllWithin limit report
  pub targets : (e : ℕ) → e < elements g → negative (target g (mass_of masses) (at report) e) ≡ 0

-- what is lent before every element is closed, beside masses and report: tentative values, and by how much the faces' nodes rise
pub record Values (g : Shape) (psi rises : List ℤ) : Type 0 where
  pub all-nodes : length psi ≡ stage_length g
  pub node-sizes : AllWithin tentative_size psi
  pub all-faces : length rises ≡ faces g
  pub rise-sizes : AllWithin rise_size rises

-- what an element's closing gives: its numbers after the step, and the clipped mass
unfoldable pub closed_lent : Shape → List ℤ → List ℤ → List ℤ → List ℤ → ℕ → Closed
unfolding closed with_held_flux target positive
closed_lent g psi rises masses report e = closed quadratic (with_held_flux quadratic g (at rises) (as_stage psi) e) (positive (target g (mass_of masses) (at report) e))
