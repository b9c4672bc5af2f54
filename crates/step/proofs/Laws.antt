-- The target's sum, exact since each of its numbers is within the limit; what an element's closing gives, from what is lent.
use mathlib.Core.Path.{◌≡◌, ◌∙◌}
use mathlib.Core.List.{List}
use Prim.Native.Nat.{ℕ, ◌≤◌, ◌<◌}
use native.Mathlib.Omega.{arith}
use lib.ListN.{length}
use lib.IntN.{ℤ, pos}
use mir.Syntax.{w32}
use mir.Val.{to_z, of_z}
use Rattle.whole.proofs.Sizes.{back_is}
use Rattle.whole.specs.Bound.{Within, Are, AllWithin}
use Rattle.whole.specs.Parts.{positive}
use Rattle.whole.specs.Table.{table, at}
use Rattle.whole.proofs.WholeLaws.{positive-le}
use Rattle.whole.proofs.BoundLaws.{within-le, within-add, within-sub}
use Rattle.rules.specs.declared.Shape.{Shape}
use Rattle.rules.specs.Field.{quadratic, elements, element_length, limit}
use Rattle.rules.specs.Limiter.{closed}
use Rattle.rules.specs.Sizes.{target_size}
use Rattle.rules.specs.Correction.{target}
use Rattle.rules.specs.HeldFlux.{with_held_flux}
use Rattle.whole.proofs.TableLaws.{get_d-table}
use Rattle.rules.proofs.LimiterLaws.{closed-cong}
use Rattle.rules.proofs.StepLaws.{length-closed}
use Rattle.step_upwind.specs.Upwind.{as_stage}
use Rattle.step.specs.Finish.{Balance, mass_of, closed_lent}

-- a limited flux as it is read from the report
pub read : (report : List ℤ) (i : ℕ) {r : ℤ} → AllWithin limit report → r ≡ to_z w32 (of_z w32 (at report i)) → Are limit r (at report i)
read report i h e = record { same = e ∙ back_is w32 (at report i) (h.all i) tt; bound = h.all i }

-- a target of masses and limited fluxes
pub target-within : (g : Shape) (masses report : List ℤ) (e : ℕ) → e < elements g → Balance g masses report → positive (target g (mass_of masses) (at report) e) ≤ target_size
unfolding target
target-within g masses report e l h = omega (arith, positive-le (target g (mass_of masses) (at report) e), small.within)
  where
    f : (i : ℕ) → Within limit (at report i)
    f = h.flux-sizes.all

    m : Within limit (pos (mass_of masses e))
    m = record { within = omega (arith, positive-le (at masses e), (h.mass-sizes e l).small.within) }

    small : Within target_size (target g (mass_of masses) (at report) e)
    small = within-le (within-add (within-sub (within-add (within-sub m (f _)) (f _)) (f _)) (f _)) (omega arith)

-- ---- a new element
module _ (g : Shape) (psi rises masses report : List ℤ) (e : ℕ) where
  abbrev goal : ℕ
  goal = positive (target g (mass_of masses) (at report) e)

  pub new-length : length (closed_lent g psi rises masses report e).numbers ≡ 10
  unfolding closed_lent element_length quadratic
  new-length = length-closed quadratic (with_held_flux quadratic g (at rises) (as_stage psi) e) goal

  -- what the closing makes of the values and the target that it is lent
  pub closing-lent : {l : List ℤ} {t : ℕ} → l ≡ table 9 (with_held_flux quadratic g (at rises) (as_stage psi) e) → t ≡ goal → closed quadratic (at l) t ≡ closed_lent g psi rises masses report e
  unfolding closed_lent quadratic
  closing-lent el et = (λ i. closed quadratic (at (el i)) (et i)) ∙ closed-cong quadratic _ (with_held_flux quadratic g (at rises) (as_stage psi) e) goal (λ k lk. get_d-table 9 (with_held_flux quadratic g (at rises) (as_stage psi) e) k (pos 0) lk)
