-- The sizes of the numbers that a step and a closing make, as the leaves of the code ask and ensure them, and of what a step answers. They are
-- round, and loose where they only keep sums within 64 bits; `StageBounds` has the sharp ones.
use Rattle.std.specs.Prelude.{ℕ, ◌+◌, ◌*◌}
use Rattle.rules.specs.Field.{limit}

-- elements of an admitted grid
abbrev pub most_elements : ℕ
most_elements = 64 * 64

-- ---- stages: a value of stage 1, a value of stages 0 to 2, a tendency, which is at most 7 times a value, and a sum of tendencies, before and with
-- that of stage 2
abbrev pub stage_1_size : ℕ
stage_1_size = 8 * limit

abbrev pub stage_size : ℕ
stage_size = 17 * limit

abbrev pub tendency_size : ℕ
tendency_size = 7 * stage_size

abbrev pub earlier_sum_size : ℕ
earlier_sum_size = 63 * limit

abbrev pub sum_size : ℕ
sum_size = 800 * limit

-- ---- faces: the stages' values as a face sums them, its sum, its flux, the four fluxes of an element, and by how much a face's nodes rise
abbrev pub combined_size : ℕ
combined_size = 77 * limit

abbrev pub face_sum_size : ℕ
face_sum_size = 6 * combined_size

abbrev pub flux_size : ℕ
flux_size = 116 * limit

abbrev pub outflow_size : ℕ
outflow_size = 4 * flux_size

abbrev pub rise_size : ℕ
rise_size = 20 * limit

-- ---- closing: the tentative values, the values that are closed, to which two faces add, what levelling adds to them (their mean and a 36th of the
-- target), what they are then, the target, and the clipped mass of an element and of a step
abbrev pub tentative_size : ℕ
tentative_size = 92 * limit

abbrev pub closing_size : ℕ
closing_size = tentative_size + 2 * rise_size

abbrev pub shift_size : ℕ
shift_size = closing_size + 13888890

abbrev pub levelled_size : ℕ
levelled_size = closing_size + shift_size

abbrev pub target_size : ℕ
target_size = 5 * limit

abbrev pub clipped_size : ℕ
clipped_size = 36 * levelled_size

abbrev pub step_clipped_size : ℕ
step_clipped_size = most_elements * clipped_size
