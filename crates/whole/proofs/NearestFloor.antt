-- Rounding to the nearest without a comparison: floor((2z + d − 1 + p) / (2d)), where p is the parity of floor(z / d), is `nearest z d`.
-- Between n and n + 1 the result becomes n + 1 just above the half where n is even, and at the half where n is odd.
use mathlib.Core.Path.{◌≡◌}
use Prim.Native.Nat.{ℕ, suc, ◌+◌, ◌*◌, ◌-◌, ◌%◌, ◌≤◌, ◌<◌}
use native.Mathlib.Nat.{mul-suc, mul-add, mul_assoc, lt_of_mul-lt-mul_left}
use native.Mathlib.Omega.{arith}
use lib.Dec.{ltb, ltb→lt, nltb→le}
use lib.IntN.{ℤ, pos, nat_abs, ◌+ℤ◌, ◌-ℤ◌, ◌*ℤ◌}
use Rattle.whole.specs.Bound.{floor_div}
use Rattle.whole.specs.Nearest.{nearest}
use Rattle.whole.specs.Parts.{positive, negative}
use Rattle.whole.proofs.Cases.{either}
use Rattle.whole.proofs.NearestOne.{distance, nearest-is, nearest-one}
use Rattle.whole.proofs.WholeLaws.{positive-pos, negative-pos, add_parts, positive-mul, negative-mul, floor-below, floor-above, abs-parts}

module _ (z : ℤ) (d : ℕ) (h : 0 < d) where
  abbrev quotient : ℤ
  quotient = floor_div z d

  abbrev parity : ℕ
  parity = nat_abs quotient % 2

  abbrev raised : ℤ
  raised = pos 2 *ℤ z +ℤ pos (d - 1) +ℤ pos parity

  abbrev rounded : ℤ
  rounded = floor_div raised (2 * d)

  -- z − d r is left − right, r being `rounded`
  abbrev left : ℕ
  left = positive z + d * negative rounded

  abbrev right : ℕ
  right = negative z + d * positive rounded

  raised-parts : positive raised + 2 * negative z ≡ negative raised + 2 * positive z + (d - 1) + parity
  raised-parts = omega (arith, add_parts (pos 2 *ℤ z +ℤ pos (d - 1)) (pos parity), add_parts (pos 2 *ℤ z) (pos (d - 1)), positive-mul 2 z, negative-mul 2 z, positive-pos (d - 1), negative-pos (d - 1), positive-pos parity, negative-pos parity)

  not-above : 2 * right + 1 ≤ 2 * left + d + parity
  not-above = omega (arith, raised-parts, floor-below raised (2 * d) (omega arith), mul_assoc 2 d (positive rounded), mul_assoc 2 d (negative rounded))

  not-below : 2 * left + parity ≤ 2 * right + d
  not-below = omega (arith, raised-parts, floor-above raised (2 * d) (omega arith), mul_assoc 2 d (positive rounded), mul_assoc 2 d (negative rounded))

  close : 2 * nat_abs (z -ℤ pos d *ℤ rounded) ≤ d
  close = omega (arith, distance z d rounded, not-above, not-below)

  -- quotient − rounded is x − y
  abbrev x : ℕ
  x = positive quotient + negative rounded

  abbrev y : ℕ
  y = positive rounded + negative quotient

  quotient-below : d * x + right ≤ left + d * y
  quotient-below = omega (arith, floor-below z d h, mul-add d (positive quotient) (negative rounded), mul-add d (positive rounded) (negative quotient))

  quotient-above : left + d * y < d * x + right + d
  quotient-above = omega (arith, floor-above z d h, mul-add d (positive quotient) (negative rounded), mul-add d (positive rounded) (negative quotient))

  -- a half above `rounded`, the quotient is `rounded`; a half below it, one less
  half-above : 2 * left ≡ 2 * right + d → x ≡ y
  half-above e =
      let le : x < suc y = lt_of_mul-lt-mul_left d (omega (arith, quotient-below, mul-suc d y)) in
      let ge : y < suc x = lt_of_mul-lt-mul_left d (omega (arith, quotient-above, mul-suc d x)) in
      omega arith

  half-below : 2 * left + d ≡ 2 * right → suc x ≡ y
  half-below e =
      let le : x < y = lt_of_mul-lt-mul_left d (omega (arith, quotient-below)) in
      let ge : y < suc (suc x) = lt_of_mul-lt-mul_left d (omega (arith, quotient-above, mul-suc d x, mul-suc d (suc x))) in
      omega arith

  even : 2 * nat_abs (z -ℤ pos d *ℤ rounded) ≡ d → nat_abs rounded % 2 ≡ 0
  even e = either (ltb right left)
      (λ t.
      let f : 2 * left ≡ 2 * right + d = omega (arith, distance z d rounded, ltb→lt right left t) in
      omega (arith, half-above f, not-below, abs-parts quotient, abs-parts rounded))
      (λ t.
      let f : 2 * left + d ≡ 2 * right = omega (arith, distance z d rounded, nltb→le right left t) in
      omega (arith, half-below f, not-above, abs-parts quotient, abs-parts rounded))

  pub nearest-floor : rounded ≡ nearest z d
  nearest-floor = nearest-one z d rounded (nearest z d) h (record { close = close; even = even }) (nearest-is z d h)
