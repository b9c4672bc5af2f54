-- A whole number by its two parts: z is positive z − negative z, and one of the two is 0.
-- A statement on whole numbers becomes one on naturals, which `omega` decides.
use Rattle.std.specs.Prelude.{ℕ, suc, ℤ, pos, negsuc}

-- z where it is above 0, else 0
unfoldable pub positive : ℤ → ℕ
positive (pos n) = n
positive (negsuc n) = 0

-- −z where z is below 0, else 0
unfoldable pub negative : ℤ → ℕ
negative (pos n) = 0
negative (negsuc n) = suc n
