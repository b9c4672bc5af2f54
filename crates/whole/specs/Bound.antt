-- Bounds on whole numbers, as contracts state them, and the division that rounds down.
use Rattle.std.specs.Prelude.{◌≡◌, List, ℕ, ◌≤◌, ℤ, pos, nat_abs, get_or}
use Rattle.std.specs.Int.Signed.{shr_z}

-- z / d for d above 0, rounded toward minus infinity ("Floor is toward minus infinity"): n / d of n, and -1 - n / d of -1 - n
abbrev pub floor_div : ℤ → ℕ → ℤ
floor_div z d = shr_z z d

-- the size of z is at most n
pub record Within (n : ℕ) (z : ℤ) : Type 0 where
  pub within : nat_abs z ≤ n

-- r is z, which is within n: what a signed function ensures of its result
pub record Are (n : ℕ) (r z : ℤ) : Type 0 where
  pub same : r ≡ z
  pub bound : Within n z

-- every number of l is within n
pub record AllWithin (n : ℕ) (l : List ℤ) : Type 0 where
  pub all : (i : ℕ) → Within n (get_or l i (pos 0))
