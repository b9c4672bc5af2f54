-- A quotient by one division for all values: with r the floor of t s / p, and v at most s, the floor of v r / s is that of v t / p or one less.
use mathlib.Core.Path.{◌≡◌, sym}
use Prim.Native.Nat.{ℕ, ◌+◌, ◌*◌, ◌/◌, ◌≤◌, ◌<◌}
use native.Mathlib.Nat.{div-mul-le_self, lt-div-mul-add, div-eq_of_lt-le, mul-le-mul_left, mul-le-mul_right, le_of_mul-le-mul_left, lt_of_mul-lt-mul_left, mul-lt-mul_of_pos_left}
use native.Mathlib.Omega.{arith}

module _ (p t v s r : ℕ) (p-above : 0 < p) (s-above : 0 < s) (v-le : v ≤ s) (r-is : r ≡ t * s / p) where
  floor-low : v * r / s * p ≤ v * t
  floor-low = le_of_mul-le-mul_left {k = s} (omega (arith, mul-le-mul_right p (div-mul-le_self (v * r) s), mul-le-mul_left v ratio-low)) s-above
    where
      ratio-low : r * p ≤ t * s
      ratio-low = rw r-is (div-mul-le_self (t * s) p)

  floor-high : v * t < (v * r / s + 1 + 1) * p
  floor-high = lt_of_mul-lt-mul_left s (omega (arith, mul-le-mul_left v ratio-high, mul-lt-mul_of_pos_left (lt-div-mul-add {a = v * r} s-above) p-above, mul-le-mul_right p v-le))
    where
      ratio-high : t * s ≤ r * p + p
      ratio-high = rw r-is (omega (arith, lt-div-mul-add {a = t * s} p-above))

  -- which of the two it is
  pub floor_is : v * t < (v * r / s + 1) * p → v * r / s ≡ v * t / p
  floor_is h = sym (div-eq_of_lt-le p floor-low h)

  pub floor-next_is : (v * r / s + 1) * p ≤ v * t → v * r / s + 1 ≡ v * t / p
  floor-next_is h = sym (div-eq_of_lt-le p h floor-high)
