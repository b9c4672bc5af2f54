-- Rounding to the nearest whole number, the even one at a half, and what characterises it (`nearest-is`, `nearest-one`).
use Rattle.std.specs.Prelude.{◌≡◌, cond, ℕ, suc, ◌+◌, ◌*◌, ◌/◌, ◌%◌, ◌≤◌, ltb, ℤ, pos, negsuc, neg_ℤ, nat_abs, ◌-ℤ◌, ◌*ℤ◌}

-- n / d for d above 0: the quotient, and one more where twice the rest is above d, or is d and the quotient is odd
unfoldable pub nearest_natural : ℕ → ℕ → ℕ
nearest_natural n d = n / d + cond (ltb (2 * (n % d)) d) 0 (cond (ltb d (2 * (n % d))) 1 (n / d % 2))

-- z / d for d above 0: the size is rounded, the sign stays
unfoldable pub nearest : ℤ → ℕ → ℤ
unfolding nearest_natural
nearest (pos n) d = pos (nearest_natural n d)
nearest (negsuc n) d = neg_ℤ (pos (nearest_natural (suc n) d))

-- r is nearest to z / d for d above 0: twice the distance of d r from z is at most d, and where it is d, r is even. There is one such number,
-- `nearest z d`
pub record Nearest (z : ℤ) (d : ℕ) (r : ℤ) : Type 0 where
  pub close : 2 * nat_abs (z -ℤ pos d *ℤ r) ≤ d
  pub even : 2 * nat_abs (z -ℤ pos d *ℤ r) ≡ d → nat_abs r % 2 ≡ 0
