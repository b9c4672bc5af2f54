-- The fewest digits that hold a number are its digits without leading zeros.
use mathlib.Core.Path.{◌≡◌, refl, ap}
use mathlib.Core.Bool.{true, false}
use mathlib.Core.List.{[], ◌∷◌, ◌++◌}
use Prim.Native.Nat.{ℕ, zero, suc, ◌+◌, ◌/◌, ◌%◌, ◌^◌, ◌≤◌, ◌<◌}
use native.Mathlib.Nat.{mod-lt, mod-eq_of_lt, pow-suc, one-le-pow, pow-le-pow_right, div-lt_iff_lt-mul, le-div_iff_mul-le}
use native.Mathlib.Decide.{dec_lt}
use native.Mathlib.Numerals.{unary_clauses}
use native.Mathlib.Omega.{arith}
use borrow.Author.Tests.{lt-ltb, le-ltb, ltb-true}
use lib.IntN.{ℤ, pos, negsuc, nat_abs}
use lib.Signed.{lt_z}
use Rattle.io.specs.Digits.{last_digits, IsDigitCount}
use Rattle.rules.specs.Text.{decimal_by, signed}

below-ten : (more n : ℕ) → n < 10 → (48 + n) ∷ [] ≡ decimal_by more n
unfolding decimal_by
below-ten zero n h = refl
below-ten (suc more) n h = rw (lt-ltb n 10 h) refl

-- p + 1 digits of a number that takes so many
digits_are : (p more n : ℕ) → p ≤ more → n < 10 ^ suc p → (0 < p → 10 ^ p ≤ n) → last_digits 10 (suc p) n ≡ decimal_by more n
unfolding decimal_by
digits_are zero more n h small large = let l : n < 10 = omega arith in rw (mod-eq_of_lt l, lt-ltb n 10 l) (below-ten more n l)
digits_are (suc p) zero n h small large = let f : ⊥ = omega arith in absurd f
digits_are (suc p) (suc more) n h small large =
    let t : n % 10 < 10 = mod-lt n (omega arith) in
    let big : 10 ^ suc p ≤ n = large (omega arith) in
    let ten : 10 ≤ n = omega (arith, big, pow-suc 10 p, one-le-pow p 10 (omega arith)) in
    rw (le-ltb n 10 ten, lt-ltb (n % 10) 10 t) (ap (λ l. l ++ ((48 + n % 10) ∷ []))
    (digits_are p more (n / 10) (omega arith) ((div-lt_iff_lt-mul {k = 10} (omega arith)).1 (rw (pow-suc 10 (suc p)) at small)) (λ _. (le-div_iff_mul-le {k = 10} (omega arith)).1 (rw (pow-suc 10 p) at big))))

-- a number of 64 bits takes at most 20 digits
at-most-20 : (p n : ℕ) → n < 2 ^ 64 → (0 < p → 10 ^ p ≤ n) → p ≤ 19
at-most-20 p n h large = go (dec_lt p 20)
  where
    go : Dec (p < 20) → p ≤ 19
    go (yes l) = omega arith
    go (no l) = let f : ⊥ = omega (arith, large (omega arith), pow-le-pow_right {n = 10} (omega arith) {i = 20} {j = p} (omega arith)) in absurd f

pub decimal-is : (k n : ℕ) → n < 2 ^ 64 → IsDigitCount 10 1 n k → last_digits 10 k n ≡ decimal_by 19 n
decimal-is zero n h f = let x : ⊥ = omega (arith, f.0) in absurd x
decimal-is (suc p) n h f =
    let large : 0 < p → 10 ^ p ≤ n = λ l. simp unary_clauses at (f.2 (omega arith)) in
    digits_are p 19 n (at-most-20 p n h large) f.1 large

-- ---- the sign
pub signed_below : (z : ℤ) → lt_z z (pos 0) ≡ true → (45 ∷ []) ++ decimal_by 19 (nat_abs z) ≡ signed z
unfolding signed
signed_below (pos n) h = let f : ⊥ = omega (arith, ltb-true n 0 h) in absurd f
signed_below (negsuc n) h = refl

pub signed_above : (z : ℤ) → lt_z z (pos 0) ≡ false → decimal_by 19 (nat_abs z) ≡ signed z
unfolding signed
signed_above (pos n) h = refl
signed_above (negsuc n) h = let x : ◌≡◌ {A = ℕ} 0 1 = cc in let f : ⊥ = omega (arith, x) in absurd f
