-- A step with and without held flux (document 02, 2026-05), evaluated: its numbers are the reference program's, where they are worked out by hand, too.
use mathlib.Core.Path.{◌≡◌, refl}
use mathlib.Core.List.{List, [], ◌∷◌, ◌++◌}
use Prim.Native.Nat.{ℕ}
use lib.IntN.{ℤ, pos, negsuc}
use lib.ListN.{replicate}
use Rattle.whole.specs.Nearest.{nearest_natural, nearest}
use Rattle.whole.specs.Parts.{positive}
use Rattle.whole.specs.Sum.{sum, sum_ℤ}
use Rattle.whole.specs.Table.{table, blocks, at}
use Rattle.rules.specs.declared.Shape.{Shape}
use Rattle.rules.specs.Field.{quadratic, weight_sum, weighted, stored_total, part_of, cell, remainder, mass, element_length, elements_length}
use Rattle.rules.specs.Grid.{east, west, north, south, behind, ahead}
use Rattle.rules.specs.Limiter.{mean_shift, adjusted, truncated, clipped, rescaled, rescaled_value, closing_remainder, closed_unlevelled, closed}
use Rattle.rules.specs.Stages.{upwind, place_wind, advection, along_x, along_y, tendency, tabulated, stage0, stage1, stage2, tentative, flux_of, face_sum, stages, flux}
use Rattle.rules.specs.Correction.{donor, outflow, with_sign, cut, limited_flux, target}
use Rattle.rules.specs.HeldFlux.{node_rise, face_rise, with_held_flux}
use Rattle.rules.specs.Step.{Stepped, fluxes, report, closed_element, finish, tracer_step, step_without_held_flux}

-- two elements, the west one with its values at its east face; both east faces have the largest wind, and both fluxes are cut, 237 to 217 and −24 to
-- −22, so that q is 3 at the first face and 0 at the second
abbrev shape : Shape
shape = record { nx = 2; ny = 1; tracers = 1 }

abbrev wind : ℕ → ℤ
wind = at (pos 1024 ∷ pos 1024 ∷ pos 0 ∷ pos 0 ∷ [])

abbrev part : List ℕ
part = 0 ∷ 0 ∷ 40 ∷ 0 ∷ 0 ∷ 40 ∷ 0 ∷ 0 ∷ 40 ∷ 0 ∷ (replicate 10 0 ++ (240 ∷ []))

-- what is left: only the east element's numbers, three alike rows and the remainder, and the clipped mass differ
abbrev left : ℕ → ℕ → ℕ → ℕ → Stepped
left west centre ρ clipped = record {
  part = replicate 9 0 ++ (1 ∷ west ∷ centre ∷ 0 ∷ west ∷ centre ∷ 0 ∷ west ∷ centre ∷ 0 ∷ ρ ∷ 240 ∷ []);
  report = pos 217 ∷ negsuc 21 ∷ pos 0 ∷ pos 0 ∷ [];
  clipped = clipped;
}

pub with-and-without : tracer_step quadratic shape wind part ∷ step_without_held_flux quadratic shape wind part ∷ [] ≡ left 22 3 35 144 ∷ left 25 3 17 120 ∷ []
unfolding tracer_step step_without_held_flux stages stage0 stage1 stage2 tentative tabulated tendency along_x along_y advection place_wind upwind flux flux_of face_sum fluxes report donor outflow limited_flux cut with_sign
    node_rise face_rise with_held_flux closed_element finish target closed closed_unlevelled clipped adjusted mean_shift truncated rescaled rescaled_value closing_remainder east west north south behind ahead
    part_of stored_total cell remainder mass weighted weight_sum quadratic element_length elements_length nearest nearest_natural sum sum_ℤ table blocks positive
with-and-without = refl
