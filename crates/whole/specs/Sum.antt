-- Sums, and a test, over the indices 0 .. n − 1 of a function.
use Rattle.std.specs.Prelude.{Bool, true, ◌&&◌, ℕ, zero, suc, ◌+◌, ℤ, pos, ◌+ℤ◌}

unfoldable pub sum : ℕ → (ℕ → ℕ) → ℕ
sum zero f = 0
sum (suc n) f = sum n f + f n

unfoldable pub sum_ℤ : ℕ → (ℕ → ℤ) → ℤ
sum_ℤ zero f = pos 0
sum_ℤ (suc n) f = sum_ℤ n f +ℤ f n

-- f holds at 0 .. n − 1
unfoldable pub all : ℕ → (ℕ → Bool) → Bool
all zero f = true
all (suc n) f = all n f && f n
