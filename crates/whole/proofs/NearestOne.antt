-- Rounding to the nearest: `nearest z d` is nearest to z / d, and no other number is.
use mathlib.Core.Path.{◌≡◌, refl}
use mathlib.Core.Bool.{cond}
use Prim.Native.Nat.{ℕ, zero, suc, ◌+◌, ◌*◌, ◌-◌, ◌/◌, ◌%◌, ◌≤◌, ◌<◌}
use native.Mathlib.Nat.{mul-suc, mul-add, mul-le-mul_left, le_of_mul-le-mul_left, div-add-mod, mod-lt}
use native.Mathlib.Omega.{arith}
use lib.Dec.{ltb, ltb→lt, nltb→le}
use lib.IntN.{ℤ, pos, negsuc, neg_ℤ, nat_abs, ◌-ℤ◌, ◌*ℤ◌}
use Rattle.whole.specs.Nearest.{nearest_natural, nearest, Nearest}
use Rattle.whole.specs.Parts.{positive, negative}
use Rattle.whole.proofs.Cases.{cond_ind}
use Rattle.whole.proofs.WholeLaws.{eq-parts, sub-parts-of, positive-mul, negative-mul, positive-neg, negative-neg, abs-parts, abs_neg}

-- ---- distances as distances of naturals
abbrev gap : ℕ → ℕ → ℕ
gap a b = a - b + (b - a)

abs-gap : (z : ℤ) → nat_abs z ≡ gap (positive z) (negative z)
unfolding positive negative
abs-gap (pos n) = omega arith
abs-gap (negsuc n) = omega arith

pub distance : (z : ℤ) (d : ℕ) (r : ℤ) → nat_abs (z -ℤ pos d *ℤ r) ≡ gap (positive z + d * negative r) (negative z + d * positive r)
distance z d r = omega (arith, abs-gap (z -ℤ pos d *ℤ r), sub-parts-of z (pos d *ℤ r), positive-mul d r, negative-mul d r)

distance-neg : (z : ℤ) (d : ℕ) (r : ℤ) → nat_abs (neg_ℤ z -ℤ pos d *ℤ neg_ℤ r) ≡ nat_abs (z -ℤ pos d *ℤ r)
distance-neg z d r = rw (distance z d r, distance (neg_ℤ z) d (neg_ℤ r), positive-neg z, negative-neg z, positive-neg r, negative-neg r) (omega arith)

-- ---- `nearest z d` is nearest
module _ (n d : ℕ) (h : 0 < d) where
  abbrev twice : ℕ
  twice = 2 * (n % d)

  -- the number m above the quotient is nearest
  abbrev Above : ℕ → Type 0
  Above m = Nearest (pos n) d (pos (n / d + m))

  -- m is 0 where twice the rest is below d, 1 where it is above d, and makes the number even where it is d
  above-is : (m : ℕ) → m ≤ 1 → (m ≡ 0 → twice ≤ d) → (m ≡ 1 → d ≤ twice) → (twice ≡ d → m ≡ n / d % 2) → Above m
  unfolding positive negative
  above-is zero k a b e =
      let size : nat_abs (pos n -ℤ pos d *ℤ pos (n / d + 0)) ≡ n % d = omega (arith, distance (pos n) d (pos (n / d + 0)), div-add-mod n d) in
      record { close = omega (arith, a refl); even = λ f. omega (arith, e (omega arith)) }
  above-is (suc zero) k a b e =
      let size : nat_abs (pos n -ℤ pos d *ℤ pos (n / d + 1)) ≡ d - n % d = omega (arith, distance (pos n) d (pos (n / d + 1)), mul-suc d (n / d), div-add-mod n d, mod-lt n h) in
      record { close = omega (arith, b refl); even = λ f. omega (arith, e (omega arith)) }
  above-is (suc (suc m)) k a b e = let f : ⊥ = omega arith in absurd f

  at-least-half : d ≤ twice → Above (cond (ltb d twice) 1 (n / d % 2))
  at-least-half ge = cond_ind (ltb d twice) 1 (n / d % 2) Above
      (λ t. let gt = ltb→lt d twice t in above-is 1 (omega arith) (omega arith) (omega arith) (omega arith))
      (λ t. let le = nltb→le d twice t in above-is (n / d % 2) (omega arith) (omega arith) (omega arith) (omega arith))

  natural-is : Nearest (pos n) d (pos (nearest_natural n d))
  unfolding nearest_natural
  natural-is = cond_ind (ltb twice d) 0 (cond (ltb d twice) 1 (n / d % 2)) Above
      (λ t. let lt = ltb→lt twice d t in above-is 0 (omega arith) (omega arith) (omega arith) (omega arith))
      (λ t. at-least-half (nltb→le twice d t))

pub nearest-is : (z : ℤ) (d : ℕ) → 0 < d → Nearest z d (nearest z d)
unfolding nearest
nearest-is (pos n) d h = natural-is n d h
nearest-is (negsuc n) d h =
    let m = natural-is (suc n) d h in
    let r = pos (nearest_natural (suc n) d) in
    let same = distance-neg (pos (suc n)) d r in
    record { close = omega (arith, m.close); even = λ e. omega (arith, m.even (omega arith), abs_neg r) }

-- ---- no other number is nearest
-- were r below s: the two distances are at most d together, so s is r + 1 and both distances are d / 2, but one of r and s is odd
not-less : (z : ℤ) (d : ℕ) (r s : ℤ) → 0 < d → Nearest z d r → Nearest z d s → positive r + negative s < positive s + negative r → ⊥
not-less z d r s h m n l =
    let x = positive r + negative s in let x-times = mul-add d (positive r) (negative s) in
    let y = positive s + negative r in let y-times = mul-add d (positive s) (negative r) in
    let near-r = m.close in let far-r = distance z d r in
    let near-s = n.close in let far-s = distance z d s in
    let step = mul-suc d x in let next : y ≤ suc x = le_of_mul-le-mul_left (omega arith) h in
    let apart : d * suc x ≤ d * y = mul-le-mul_left d l in
    omega (arith, m.even (omega arith), n.even (omega arith), abs-parts r, abs-parts s)

pub nearest-one : (z : ℤ) (d : ℕ) (r s : ℤ) → 0 < d → Nearest z d r → Nearest z d s → r ≡ s
nearest-one z d r s h m n = eq-parts (omega (arith, not-less z d r s h m n, not-less z d s r h n m))
