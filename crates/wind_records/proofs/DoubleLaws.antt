-- An f64 by its bits: the size of the wind that it becomes, by its exponent; its sign; and that it is no NaN.
use mathlib.Core.Path.{◌≡◌, refl, sym, ap, subst, ◌∙◌}
use mathlib.Core.Bool.{Bool, true, false, not, cond}
use Prim.Native.Nat.{ℕ, zero, suc, ◌+◌, ◌*◌, ◌-◌, ◌%◌, ◌^◌, ◌≤◌, ◌<◌}
use borrow.Author.Tests.{le-leb, lt-leb, ne_eqb, not-true}
use native.Mathlib.Nat.{le_trans, le_of_eq, lt_of_lt_of_le, mul_assoc, mul_comm, mul-le-mul_left, mul-le-mul_right, mul-lt-mul_of_pos_left, mul-lt-mul_of_pos_right, mod-lt, mod-eq_of_lt}
use native.Mathlib.Omega.{arith}
use lib.Dec.{T, leb, eqb, leb→le, nleb→lt, lit<, lit≤}
use lib.Ieee.{Float, nan, inf, fin, binary64, nan_bits, is_nan, of_bits, to_bits}
use lib.Ieee.Bits.{nan_bits_is, to_bits-of_bits}
use lib.IntN.{ℤ, pos, neg_ℤ, nat_abs, ◌*ℤ◌}
use lib.Pow.{pow_pos, pow-add, pow_mono}
use Rattle.whole.specs.Nearest.{nearest_natural, nearest}
use Rattle.whole.proofs.Cases.{cond_ind, true_of}
use Rattle.whole.proofs.WholeLaws.{abs_neg}
use Rattle.whole.proofs.NearestLaws.{at_least, at_most, rounds-to-zero, same-fraction, nearest-neg}
use Rattle.rules.specs.Field.{wind_in_range}
use Rattle.rules.specs.WindRecords.{sign_bit, exponent, fraction, finite, magnitude, exact_value, face_wind}
use Rattle.wind_records.specs.Records.{capped_size, capped_wind}

-- the size of the wind, from 4096 up, too
abbrev wind_size : ℕ → ℕ
wind_size bits = nearest_natural (4096 * magnitude bits) (2 ^ 1074)

-- ---- the sign
-- a size with a sign
abbrev signed : Bool → ℕ → ℤ
signed s n = cond s (neg_ℤ (pos n)) (pos n)

signed-nearest : (s : Bool) (n d : ℕ) → nearest (pos 4096 *ℤ signed s n) d ≡ signed s (nearest_natural (4096 * n) d)
unfolding nearest
signed-nearest true zero d = nearest-neg 0 d
signed-nearest true (suc n) d = nearest-neg (4096 * suc n) d
signed-nearest false n d = refl

pub face-wind-is : (bits : ℕ) → face_wind bits ≡ signed (sign_bit bits) (wind_size bits)
unfolding face_wind exact_value
face-wind-is bits = signed-nearest (sign_bit bits) (magnitude bits) (2 ^ 1074)

size_of : (s : Bool) (n : ℕ) → nat_abs (signed s n) ≡ n
size_of true n = abs_neg (pos n)
size_of false n = refl

-- n, or 4096 where it is larger
abbrev capped : ℕ → ℕ
capped n = cond (leb n 4096) n 4096

capped_is : (bits : ℕ) → capped (wind_size bits) ≡ capped_size bits
unfolding capped_size
capped_is bits = ap capped (sym (ap nat_abs (face-wind-is bits) ∙ size_of (sign_bit bits) (wind_size bits)))

-- ---- the size, by the exponent
module _ (bits : ℕ) where
  -- a normal number: the fraction after a leading 1, doubled
  normal : 0 < exponent bits → magnitude bits ≡ (2 ^ 52 + fraction bits) * 2 ^ (exponent bits - 1)
  unfolding magnitude
  normal h = rw (ne_eqb (exponent bits) 0 (λ z. omega arith))

  large : 1023 ≤ exponent bits → 2 ^ 1074 ≤ magnitude bits
  large h =
      let p : 2 ^ 1022 ≤ 2 ^ (exponent bits - 1) = pow_mono {i = 1022} {j = exponent bits - 1} (omega arith) in
      subst (λ x. 2 ^ 1074 ≤ x) (sym (normal (omega arith)))
      (le_trans (le_of_eq (pow-add 2 52 1022)) (le_trans (mul-le-mul_left (2 ^ 52) p) (mul-le-mul_right {m = 2 ^ 52} {n = 2 ^ 52 + fraction bits} (2 ^ (exponent bits - 1)) (omega arith))))

  pub high : 1023 ≤ exponent bits → capped_size bits ≡ 4096
  high h = sym (capped_is bits) ∙ cut (wind_size bits) (at_least (4096 * magnitude bits) (2 ^ 1074) 4096 (pow_pos 1074) (mul-le-mul_left 4096 (large h)))
    where
      cut : (n : ℕ) → 4096 ≤ n → capped n ≡ 4096
      cut n l = cond_ind (leb n 4096) n 4096 (λ x. x ≡ 4096) (λ t. omega (arith, leb→le n 4096 t)) (λ _. refl)

  small : exponent bits < 1010 → magnitude bits < 2 ^ 1061
  unfolding magnitude
  small h = cond_ind (eqb (exponent bits) 0) (fraction bits) ((2 ^ 52 + fraction bits) * 2 ^ (exponent bits - 1)) (λ x. x < 2 ^ 1061)
      (λ _. lt_of_lt_of_le (mod-lt bits {m = 2 ^ 52} (pow_pos 52)) (pow_mono {i = 52} {j = 1061} (lit≤ tt)))
      (λ _. lt_of_lt_of_le (mul-lt-mul_of_pos_right {m = 2 ^ 52 + fraction bits} {n = 2 ^ 53} (omega (arith, mod-lt bits {m = 2 ^ 52} (pow_pos 52))) (pow_pos (exponent bits - 1)))
      (le_trans (mul-le-mul_left (2 ^ 53) (pow_mono {i = exponent bits - 1} {j = 1008} (omega arith))) (le_of_eq (sym (pow-add 2 53 1008)))))

  pub low : exponent bits < 1010 → capped_size bits ≡ 0
  low h = sym (capped_is bits) ∙ ap capped (rounds-to-zero (4096 * magnitude bits) (2 ^ 1074) below)
    where
      below : 2 * (4096 * magnitude bits) < 2 ^ 1074
      below = subst (λ x. x < 2 ^ 1074) (mul_assoc 2 4096 (magnitude bits)) (lt_of_lt_of_le (mul-lt-mul_of_pos_left {k = 8192} (small h) (lit< tt)) (le_of_eq (sym (pow-add 2 13 1061))))

  -- between the two: 4096 2^(e − 1) / 2^1074 is 1 / 2^(1063 − e)
  pub middle : 1010 ≤ exponent bits → exponent bits < 1023 → nearest_natural (2 ^ 52 + fraction bits) (2 ^ (1063 - exponent bits)) ≡ capped_size bits
  middle h l =
      let s = 2 ^ 52 + fraction bits in
      let e = exponent bits in
      let d = 2 ^ (1063 - e) in
      let q : e - 1 + (1063 - e) ≡ 1062 = omega arith in
      let p : 2 ^ (e - 1) * d ≡ 2 ^ 1062 = sym (pow-add 2 (e - 1) (1063 - e)) ∙ ap (λ x. 2 ^ x) q in
      let f : 4096 * magnitude bits * d ≡ s * 2 ^ 1074 =
      ap (λ x. 4096 * x * d) (normal (omega arith)) ∙ mul_assoc 4096 (s * 2 ^ (e - 1)) d ∙ ap (λ x. 4096 * x) (mul_assoc s (2 ^ (e - 1)) d ∙ ap (λ x. s * x) p)
      ∙ sym (mul_assoc 4096 s (2 ^ 1062)) ∙ ap (λ x. x * 2 ^ 1062) (mul_comm 4096 s) ∙ mul_assoc s 4096 (2 ^ 1062) ∙ ap (λ x. s * x) (sym (pow-add 2 12 1062)) in
      let n = same-fraction (4096 * magnitude bits) (2 ^ 1074) s d (pow_pos 1074) (pow_pos (1063 - e)) f in
      let k : 2 ^ 41 ≤ d = pow_mono {i = 41} {j = 1063 - e} (omega arith) in
      let b : nearest_natural s d ≤ 4096 = at_most s d 4096 (pow_pos (1063 - e)) (omega (arith, mod-lt bits {m = 2 ^ 52} (pow_pos 52))) in
      let c : capped (nearest_natural s d) ≡ nearest_natural s d = rw (le-leb (nearest_natural s d) 4096 b) in
      sym c ∙ ap capped (sym n) ∙ capped_is bits

-- cut to 4096, a wind is in range where it was, and then it is the same
module _ (bits : ℕ) where
  pub range-kept : wind_in_range (capped_wind bits) ≡ wind_in_range (face_wind bits)
  unfolding capped_wind capped_size
  range-kept = ap (λ n. leb n 1024) (size_of (sign_bit bits) (capped_size bits)) ∙ cut (nat_abs (face_wind bits))
    where
      cut : (n : ℕ) → leb (capped n) 1024 ≡ leb n 1024
      cut n = cond_ind (leb n 4096) n 4096 (λ x. leb x 1024 ≡ leb n 1024) (λ _. refl) (λ t. sym (lt-leb n 1024 (omega (arith, nleb→lt n 4096 t))))

  pub wind-kept : T (wind_in_range (face_wind bits)) → capped_wind bits ≡ face_wind bits
  unfolding capped_wind
  wind-kept t = ap (signed (sign_bit bits)) (sym (capped_is bits) ∙ cut (wind_size bits) (subst (λ c. nat_abs c ≤ 1024) (face-wind-is bits) (leb→le (nat_abs (face_wind bits)) 1024 t))) ∙ sym (face-wind-is bits)
    where
      cut : (n : ℕ) → nat_abs (signed (sign_bit bits) n) ≤ 1024 → capped n ≡ n
      cut n l = rw (le-leb n 4096 (omega (arith, size_of (sign_bit bits) n)))

-- ---- what the code asks
pub capped_small : (bits : ℕ) → capped_size bits ≤ 4096
unfolding capped_size
capped_small bits = cut (nat_abs (face_wind bits))
  where
    cut : (n : ℕ) → capped n ≤ 4096
    cut n = cond_ind (leb n 4096) n 4096 (λ x. x ≤ 4096) (λ t. leb→le n 4096 t) (λ _. omega arith)

-- 1 shifted by k
pub shifted : (k : ℕ) → k ≤ 53 → 1 * 2 ^ k % 18446744073709551616 ≡ 2 ^ k
shifted k h =
    let l : 2 ^ k ≤ 2 ^ 53 = pow_mono h in
    let e : 1 * 2 ^ k ≡ 2 ^ k = omega arith in
    rw e (mod-eq_of_lt (omega arith))

pub capped_zero : capped_wind 0 ≡ pos 0
unfolding capped_wind capped_size face_wind exact_value magnitude nearest nearest_natural
capped_zero = refl

-- the bits of a finite f64 are no NaN's
pub no_nan_bits : (bits : ℕ) → T (finite bits) → T (not (nan_bits binary64 bits))
unfolding nan_bits
no_nan_bits bits t = rw (not-true (eqb (exponent bits) 2047) (true_of (finite bits) t)) tt

pub no_nan : (x : Float) → T (finite (to_bits binary64 x)) → T (not (is_nan x))
unfolding to_bits is_nan
no_nan nan t = absurd t
no_nan (inf s) t = tt
no_nan (fin s m e) t = tt

-- through an f64 and back
pub same_bits : (bits : ℕ) → bits < 18446744073709551616 → T (finite bits) → to_bits binary64 (of_bits binary64 bits) ≡ bits
same_bits bits l t = to_bits-of_bits binary64 bits l (subst (λ b. T (not b)) (nan_bits_is binary64 bits) (no_nan_bits bits t))
