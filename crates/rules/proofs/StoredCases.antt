-- Stored totals (document 02, 2026-06), evaluated: what calls on a field of one tracer answer and leave, one theorem over one table. The numbers are
-- worked out by hand.
use mathlib.Core.Path.{◌≡◌, refl}
use mathlib.Core.List.{List, [], ◌∷◌, ◌++◌, map}
use Prim.Native.Nat.{ℕ}
use lib.IntN.{pos}
use lib.ListN.{replicate}
use Rattle.whole.specs.Nearest.{nearest_natural, nearest}
use Rattle.whole.specs.Parts.{positive}
use Rattle.whole.specs.Sum.{sum, sum_ℤ, all}
use Rattle.whole.specs.Table.{table, blocks, overwrite}
use Rattle.rules.specs.declared.Shape.{Shape}
use Rattle.rules.specs.Answers.{Answer, accepted, refused, answer, after, mapped}
use Rattle.rules.specs.Field.{quadratic, admitted, weight_sum, weighted, element_length, elements_length, part_length, field_length, part, with_part, cell, remainder, mass, total, stored_total, part_of, with_stored_total, sum_sound, sound, stored_sound, element_sound, named_sound, if_there, faces}
use Rattle.rules.specs.Calls.{Operation, load, emission, withdrawal, step, Lent, lengths_lent, loaded_value, loaded_element, loaded, with_element, emitted, withdrawn, done, lent_enough, wind_sound, checks, call, total_reading, mass_reading, fresh_reply, zero_field, fresh_field}
use Rattle.rules.specs.Grid.{east, west, north, south, behind, ahead}
use Rattle.rules.specs.Limiter.{mean_shift, adjusted, truncated, clipped, rescaled, rescaled_value, closing_remainder, closed_unlevelled, closed}
use Rattle.rules.specs.Stages.{upwind, place_wind, advection, along_x, along_y, tendency, tabulated, stage0, stage1, stage2, tentative, flux_of, face_sum, stages, flux}
use Rattle.rules.specs.Correction.{donor, outflow, with_sign, cut, limited_flux, target}
use Rattle.rules.specs.HeldFlux.{node_rise, face_rise, with_held_flux}
use Rattle.rules.specs.Step.{fluxes, report, closed_element, finish, tracer_step}
use Rattle.rules.specs.Text.{decimal_by, right_aligned}
use Rattle.rules.specs.Map.{column_text, block_line, header_line, sum_line, row_line, block_text, page_text, block_count, page_length, map_reading}

-- what a case asks of a field: a call on it, a reading, a map
pub data Question : Type 0 where
  fresh : Question
  called : Operation Lent → Question
  mass-of : ℕ → ℕ → Question
  total-of : Question
  printed : Question

-- two elements, (0, 0) and (0, 1), so that (1, 0) is off the grid and has the index of the second; and one element
abbrev two : Shape
two = record { nx = 1; ny = 2; tracers = 1 }

abbrev one : Shape
one = record { nx = 1; ny = 1; tracers = 1 }

-- the field of an element with the values v and the remainder r, of one with the values w and the remainder s, and of the stored total t
abbrev numbers : ℕ → ℕ → ℕ → ℕ → ℕ → List ℕ
numbers v r w s t = replicate 9 v ++ (r ∷ replicate 9 w ++ (s ∷ t ∷ []))

-- a step without wind: every element stays
abbrev calm : Question
calm = called (step (lengths_lent (replicate 4 (pos 0)) 4 128))

-- what is answered: the field that an accepted call leaves, or the number of a reading or a map
abbrev left : {A : Type 0} → Answer A → List ℕ → Answer (List ℕ)
left a field = mapped (λ x. field) a

abbrev answered : Shape → List ℕ → Question → Answer (List ℕ)
answered g f fresh = left (fresh_reply quadratic g f (replicate (faces g) (pos 0))) (fresh_field quadratic g f (replicate (faces g) (pos 0)))
answered g f (called op) = left (call quadratic g 0 op f).reply (call quadratic g 0 op f).field
answered g f (mass-of i j) = mapped (λ n. n ∷ []) (mass_reading quadratic g 0 i j f)
answered g f total-of = mapped (λ n. n ∷ []) (total_reading quadratic g 0 f)
answered g f printed = mapped (λ n. n ∷ []) (map_reading quadratic g 0 f (replicate (page_length g) 0))

pub record Case : Type 0 where
  pub shape : Shape
  pub field : List ℕ
  pub question : Question
  pub expected : Answer (List ℕ)

-- of two elements, and of one
abbrev row : List ℕ → Question → Answer (List ℕ) → Case
row f q a = record { shape = two; field = f; question = q; expected = a }

abbrev alone : List ℕ → Question → Answer (List ℕ) → Case
alone f q a = record { shape = one; field = f; question = q; expected = a }

-- the first element holds 5 and the second one holds 7
abbrev small : ℕ → List ℕ
small t = numbers 0 5 0 7 t

-- the second one has a remainder above 35, and the sum is 41
abbrev broken : ℕ → List ℕ
broken t = numbers 0 5 0 36 t

abbrev pub cases : List Case
cases =
    -- "Fresh sets it to 0, load to the new sum"; a load looks at no old number
    row (numbers 7 7 7 7 7) fresh (accepted (replicate 21 0))
    ∷ alone (replicate 10 36 ++ (100000001 ∷ [])) (called (load (1 ∷ 0 ∷ 0 ∷ 0 ∷ 2 ∷ 0 ∷ 0 ∷ 0 ∷ 3 ∷ []))) (accepted (1 ∷ 0 ∷ 0 ∷ 0 ∷ 2 ∷ 0 ∷ 0 ∷ 0 ∷ 3 ∷ 0 ∷ 36 ∷ []))
    -- "emission adds q, withdrawal takes q off, a step leaves it"
    ∷ row (small 12) (called (emission 0 0 20)) (accepted (numbers 0 25 0 7 32))
    ∷ row (small 12) (called (withdrawal 0 0 3)) (accepted (numbers 0 2 0 7 9))
    ∷ row (small 12) calm (accepted (small 12))
    -- "Emission, withdrawal and the readings look at the named element and the stored total only."
    ∷ row (broken 50) (called (emission 0 0 20)) (accepted (numbers 0 25 0 36 70))
    ∷ row (broken 50) (called (withdrawal 0 0 3)) (accepted (numbers 0 2 0 36 47))
    ∷ row (broken 50) (mass-of 0 0) (accepted (5 ∷ []))
    ∷ row (broken 50) total-of (accepted (50 ∷ []))
    -- "They give 6 for that element's remainder above 35"
    ∷ row (broken 50) (called (emission 0 1 20)) (refused 6)
    ∷ row (broken 50) (called (withdrawal 0 1 3)) (refused 6)
    ∷ row (broken 50) (mass-of 0 1) (refused 6)
    -- "a stored total above 100,000,000", and so off the grid
    ∷ row (small 100000001) (called (emission 0 0 0)) (refused 6)
    ∷ row (small 100000001) (called (withdrawal 0 0 3)) (refused 6)
    ∷ row (small 100000001) (mass-of 0 0) (refused 6)
    ∷ row (small 100000001) total-of (refused 6)
    ∷ row (small 100000001) (called (emission 1 0 0)) (refused 6)
    ∷ row (small 100000001) (called (withdrawal 1 0 3)) (refused 6)
    ∷ row (small 100000001) (mass-of 1 0) (refused 6)
    ∷ row (small 100000000) total-of (accepted (100000000 ∷ []))
    -- "or an element holding more than it"; not one that holds just as much
    ∷ row (small 6) (called (emission 0 1 1)) (refused 6)
    ∷ row (small 6) (called (withdrawal 0 1 1)) (refused 6)
    ∷ row (small 6) (mass-of 0 1) (refused 6)
    ∷ row (small 5) (called (withdrawal 0 0 5)) (accepted (numbers 0 0 0 7 0))
    ∷ row (small 5) (mass-of 0 0) (accepted (5 ∷ []))
    ∷ row (small 5) total-of (accepted (5 ∷ []))
    -- "one off the grid has no numbers"
    ∷ row (numbers 0 36 0 36 1) (called (emission 1 0 20)) (refused 8)
    ∷ row (numbers 0 36 0 36 1) (called (withdrawal 1 0 3)) (refused 8)
    ∷ row (numbers 0 36 0 36 1) (mass-of 1 0) (refused 8)
    -- 9 is of the stored total, where the sum is 12 and where it is above the limit
    ∷ row (small 99999990) (called (emission 0 0 10)) (accepted (numbers 0 15 0 7 100000000))
    ∷ row (small 99999990) (called (emission 0 0 11)) (refused 9)
    ∷ row (numbers 0 5 3000000 7 5) (called (emission 0 0 1)) (accepted (numbers 0 6 3000000 7 6))
    -- "Step, the printed map, .. still sum, and give 6 where sum and stored total differ."; and so above the limit where they are the same
    ∷ row (small 11) calm (refused 6)
    ∷ row (small 13) calm (refused 6)
    ∷ row (broken 41) calm (refused 6)
    ∷ row (numbers 2777777 29 0 0 100000001) calm (refused 6)
    ∷ row (small 11) printed (refused 6)
    ∷ row (small 13) printed (refused 6)
    ∷ row (broken 41) printed (refused 6)
    ∷ row (numbers 2777777 29 0 0 100000001) printed (refused 6)
    ∷ row (small 12) printed (accepted (296 ∷ []))
    ∷ []

pub stored-cases : map (λ c. answered c.shape c.field c.question) cases ≡ map (λ c. c.expected) cases
unfolding answer after mapped admitted lent_enough checks if_there sum_sound sound stored_sound element_sound named_sound wind_sound call done loaded loaded_element loaded_value with_element emitted withdrawn
    fresh_reply zero_field fresh_field mass_reading total_reading map_reading page_text page_length block_count block_text block_line header_line row_line sum_line column_text decimal_by right_aligned
    element_length elements_length part_length field_length part with_part part_of stored_total with_stored_total cell remainder mass total weighted weight_sum quadratic
    tracer_step stages stage0 stage1 stage2 tentative tabulated tendency along_x along_y advection place_wind upwind flux flux_of face_sum fluxes report donor outflow limited_flux cut with_sign
    node_rise face_rise with_held_flux closed_element finish target closed closed_unlevelled clipped adjusted mean_shift truncated rescaled rescaled_value closing_remainder east west north south behind ahead
    sum sum_ℤ all table blocks overwrite positive nearest nearest_natural
stored-cases = refl
