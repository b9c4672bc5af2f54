-- The size of 4096 times what a line of nodes brings to the tendency, with values as large as a stage's.
use Rattle.std.specs.Prelude.{List, [], ℕ, ◌*◌, get_or, ℤ}
use Rattle.whole.specs.Bound.{AllWithin}
use Rattle.rules.specs.Sizes.{stage_size}

-- a product of a wind, or the sum of two, and a value, also of a face's wind and an upwind value there
abbrev pub product_size : ℕ
product_size = 2048 * stage_size

-- the largest sums of a line are those at its first and its last place: 3 (2 + 1) products and 3 more
abbrev pub line_size : ℕ
line_size = 12 * product_size

-- each number of each line is within n
pub record LinesWithin (n : ℕ) (lines : List (List ℤ)) : Type 0 where
  pub each : (b : ℕ) → AllWithin n (get_or lines b [])
