-- Document 01, "Cases beside the edges": the cases marked *, one theorem over one table. Those of fluxes are document 02's,
-- 2026-02, and the one of document 01 that stays; those of 2026-05, which has no figures, are worked out by hand.
use mathlib.Core.Path.{◌≡◌, refl}
use mathlib.Core.Bool.{cond}
use mathlib.Core.List.{List, [], ◌∷◌, ◌++◌, map}
use Prim.Native.Nat.{ℕ}
use lib.Dec.{eqb}
use lib.IntN.{ℤ, pos, negsuc}
use lib.ListN.{get_or, replicate}
use Rattle.whole.specs.Nearest.{nearest_natural, nearest}
use Rattle.whole.specs.Parts.{positive}
use Rattle.whole.specs.Sum.{sum, sum_ℤ}
use Rattle.whole.specs.Table.{table, at}
use Rattle.rules.specs.declared.Shape.{Shape}
use Rattle.rules.specs.Field.{quadratic, weight_sum, weighted, north_face}
use Rattle.rules.specs.Grid.{east, west, north, behind, ahead}
use Rattle.rules.specs.Limiter.{mean_shift, adjusted, truncated, clipped, rescaled, rescaled_value, closing_remainder, closed_unlevelled, closed}
use Rattle.rules.specs.Stages.{flux_of}
use Rattle.rules.specs.Correction.{donor, outflow, with_sign, cut, limited_flux}
use Rattle.rules.specs.HeldFlux.{node_rise, rises, face_rise, with_held_flux}

-- what a case asks
pub data Question : Type 0 where
  -- every element of a 3 by 3 grid holds this mass; the element in the middle has outflows of 7 to the east, north and west
  -- (a flux of −7 on its west neighbour's face): the three limited fluxes
  three-outflows : ℕ → Question
  -- a face of this wind and this sum: its flux; and the donor of the flux, 0 for the element west of it and 1 for the one east
  amount : ℤ → ℤ → Question
  donor_for : ℤ → ℤ → Question
  -- these ψ and this T: what levelling adds, the weighted sum P after truncation, then the closed element and its clipped mass
  closing : List ℤ → ℕ → Question
  -- a face of this flux and this limited flux: its q
  holding : ℤ → ℤ → Question
  -- a grid of nx by ny elements, the q of its faces by their numbers, and an element: what ψ all 0 becomes at its nodes
  rising : ℕ → ℕ → List ℤ → ℕ → Question

abbrev grid : Shape
grid = record { nx = 3; ny = 3; tracers = 1 }

-- the middle element is element 4, its west neighbour element 3
sevens : ℕ → ℤ
sevens f = cond (eqb f 4) (pos 7) (cond (eqb f (north_face grid 4)) (pos 7) (cond (eqb f 3) (negsuc 6) (pos 0)))

cut-sevens : ℕ → ℕ → ℤ
unfolding sevens donor outflow limited_flux
cut-sevens m f = limited_flux (donor grid sevens) (λ e. m) sevens (outflow grid (donor grid sevens) sevens) f

-- what the rules answer
pub answered : Question → List ℤ
unfolding cut-sevens flux_of donor closed adjusted mean_shift truncated weighted node_rise with_held_flux
answered (three-outflows m) = cut-sevens m 4 ∷ cut-sevens m (north_face grid 4) ∷ cut-sevens m 3 ∷ []
answered (amount c s) = flux_of quadratic c s ∷ []
answered (donor_for c s) = pos (donor grid (λ f. flux_of quadratic c s) 0) ∷ []
answered (closing ψ t) =
    let values : ℕ → ℤ = λ k. get_or ψ k (pos 0) in
    mean_shift quadratic values t ∷ pos (weighted quadratic (truncated (adjusted quadratic values t))) ∷ map pos (closed quadratic values t).numbers ++ (pos (closed quadratic values t).clipped ∷ [])
answered (holding flux limited) = rises quadratic (flux ∷ []) (limited ∷ []) 0 ∷ []
answered (rising nx ny q e) = table 9 (with_held_flux quadratic (record { nx = nx; ny = ny; tracers = 1 }) (at q) (λ e k. pos 0) e)

pub record Case : Type 0 where
  pub question : Question
  pub expected : List ℤ

row : Question → List ℤ → Case
row q a = record { question = q; expected = a }

-- ψ of the nine nodes, from the corners, the edges and the centre
nine : ℤ → ℤ → ℤ → ℤ → List ℤ
nine first corner edge centre = first ∷ edge ∷ corner ∷ edge ∷ centre ∷ edge ∷ corner ∷ edge ∷ corner ∷ []

-- nine equal values and a remainder, and nothing clipped
alike : ℕ → ℕ → List ℤ
alike v r = replicate 9 (pos v) ++ (pos r ∷ pos 0 ∷ [])

pub cases : List Case
unfolding row nine alike
cases =
    -- "M = 10, three outflows of 7: each 3. M = 20: each 6. M = 21: each 7. M = 0: each 0. With G = −7 and M = 10: −3."
    row (three-outflows 10) (pos 3 ∷ pos 3 ∷ negsuc 2 ∷ [])
    ∷ row (three-outflows 20) (pos 6 ∷ pos 6 ∷ negsuc 5 ∷ [])
    ∷ row (three-outflows 21) (pos 7 ∷ pos 7 ∷ negsuc 6 ∷ [])
    ∷ row (three-outflows 0) (pos 0 ∷ pos 0 ∷ pos 0 ∷ [])
    -- document 02, 2026-02: "sum 4095, C = 1 gives 1; sum 2048, C = 1 gives 0; sum 6144, C = 1 gives 2; sum 4097, C = −1 gives −1"
    ∷ row (amount (pos 1) (pos 4095)) (pos 1 ∷ [])
    ∷ row (amount (pos 1) (pos 2048)) (pos 0 ∷ [])
    ∷ row (amount (pos 1) (pos 6144)) (pos 2 ∷ [])
    ∷ row (amount (negsuc 0) (pos 4097)) (negsuc 0 ∷ [])
    -- "Sum −4097, C = 1: G = −1, donor the east element."
    ∷ row (amount (pos 1) (negsuc 4096)) (negsuc 0 ∷ [])
    ∷ row (donor_for (pos 1) (negsuc 4096)) (pos 1 ∷ [])
    -- Document 02, 2026-04, has no figures for these; by hand: 160 − 100 = 60, and 32 − (32 − 12 − 16) = 28, where edges are levelled to −1 and
    -- corners to −3.
    -- "Closing, ψ centre 10, one corner −60, others 0, T = 100: P = 160, centre 6, ρ = 4."
    ∷ row (closing (nine (negsuc 59) (pos 0) (pos 0) (pos 10)) 100) (pos 0 ∷ pos 160 ∷ nine (pos 0) (pos 0) (pos 0) (pos 6) ++ (pos 4 ∷ pos 60 ∷ []))
    -- "Centre 3, corners −2, edges 0, T = 36: levelled by −1, P = 32, centre 2, others 0, ρ = 4."
    ∷ row (closing (nine (negsuc 1) (negsuc 1) (pos 0) (pos 3)) 36) (negsuc 0 ∷ pos 32 ∷ nine (pos 0) (pos 0) (pos 0) (pos 2) ++ (pos 4 ∷ pos 28 ∷ []))
    -- "ψ all 0: T = 35 gives ρ = 35; T = 36 gives all 1, ρ = 0. ψ all −5, T = 0: all 0."
    ∷ row (closing (replicate 9 (pos 0)) 35) (pos 0 ∷ pos 0 ∷ alike 0 35)
    ∷ row (closing (replicate 9 (pos 0)) 36) (pos 1 ∷ pos 36 ∷ alike 1 0)
    ∷ row (closing (replicate 9 (negsuc 4)) 0) (pos 5 ∷ pos 0 ∷ alike 0 0)
    -- 2026-05 has no figures either; by hand: d = 4, 13, −13, −5 and 6, divided by 6 toward zero.
    ∷ row (holding (pos 7) (pos 3)) (pos 0 ∷ [])
    ∷ row (holding (pos 20) (pos 7)) (pos 2 ∷ [])
    ∷ row (holding (negsuc 19) (negsuc 6)) (negsuc 1 ∷ [])
    ∷ row (holding (negsuc 4) (pos 0)) (pos 0 ∷ [])
    ∷ row (holding (pos 6) (pos 0)) (pos 1 ∷ [])
    -- 1 by 1, where both ends of a face are one element, q = 5 on its east and 3 on its north face; rows from the south: −8 −3 2, −5 0 5, −2 3 8.
    ∷ row (rising 1 1 (pos 5 ∷ pos 3 ∷ []) 0) (negsuc 7 ∷ negsuc 2 ∷ pos 2 ∷ negsuc 4 ∷ pos 0 ∷ pos 5 ∷ negsuc 1 ∷ pos 3 ∷ pos 8 ∷ [])
    -- 2 by 1, q = 4 on the east face of element 0 alone: element 0 rises at its east nodes, element 1 falls at its west nodes.
    ∷ row (rising 2 1 (pos 4 ∷ pos 0 ∷ pos 0 ∷ pos 0 ∷ []) 0) (pos 0 ∷ pos 0 ∷ pos 4 ∷ pos 0 ∷ pos 0 ∷ pos 4 ∷ pos 0 ∷ pos 0 ∷ pos 4 ∷ [])
    ∷ row (rising 2 1 (pos 4 ∷ pos 0 ∷ pos 0 ∷ pos 0 ∷ []) 1) (negsuc 3 ∷ pos 0 ∷ pos 0 ∷ negsuc 3 ∷ pos 0 ∷ pos 0 ∷ negsuc 3 ∷ pos 0 ∷ pos 0 ∷ [])
    -- 2 by 2, at the north-east element q = 3 on its west, −4 on its east, 20 on its south and 40 on its north face; a corner gets what two faces
    -- add; rows from the south: −23 −20 −24, −3 0 −4, 37 40 36.
    ∷ row (rising 2 2 (pos 1 ∷ pos 2 ∷ pos 3 ∷ negsuc 3 ∷ pos 10 ∷ pos 20 ∷ pos 30 ∷ pos 40 ∷ []) 3) (negsuc 22 ∷ negsuc 19 ∷ negsuc 23 ∷ negsuc 2 ∷ pos 0 ∷ negsuc 3 ∷ pos 37 ∷ pos 40 ∷ pos 36 ∷ [])
    ∷ []

pub marked-cases : map (λ c. answered c.question) cases ≡ map (λ c. c.expected) cases
unfolding cases row nine alike answered cut-sevens sevens limited_flux donor outflow cut with_sign rescaled behind ahead east west north flux_of nearest nearest_natural quadratic weight_sum weighted
    closed closed_unlevelled clipped adjusted mean_shift truncated rescaled_value closing_remainder positive sum sum_ℤ table node_rise face_rise with_held_flux
marked-cases = refl
