-- The quotient toward zero, less one where the remainder is negative, is the quotient rounded down.
use mathlib.Core.Path.{◌≡◌, refl, sym, ap, subst, ◌∙◌}
use mathlib.Core.Bool.{Bool, true, false, not}
use Prim.Native.Nat.{ℕ, zero, suc, ◌*◌, ◌/◌, ◌%◌, ◌<◌}
use native.Mathlib.Nat.{div-eq_of_lt-le, div-add-mod', mod-lt, zero-mul}
use native.Mathlib.Omega.{arith}
use lib.Dec.{T, leb→le, ltb→lt}
use lib.IntN.{ℤ, pos, negsuc, neg_ℤ, nat_abs, ◌-ℤ◌}
use lib.Signed.{quot_z, rem_z, ◌≤ℤ◌, ◌<ℤ◌, lt_z, lt_z_no}
use mir.Syntax.{w64}
use mir.Val.{of_z}
use Rattle.whole.specs.Bound.{floor_div}

-- one more, divided: the quotient moves just where the remainder is 0
div-stays : (a d : ℕ) → 0 < d → 0 < suc a % d → suc a / d ≡ a / d
div-stays a d h r = sym (div-eq_of_lt-le d
    (omega (arith, div-add-mod' (suc a) d, mod-lt (suc a) h))
    (omega (arith, div-add-mod' (suc a) d, mod-lt (suc a) h)))

quotient-of : (q a d : ℕ) → 0 < d → q * d ≡ suc a → q ≡ suc (a / d)
quotient-of zero a d h e = let c : ⊥ = omega (arith, zero-mul d) in absurd c
quotient-of (suc q) a d h e = ap suc (sym (div-eq_of_lt-le {k = q} d {m = a} (omega (arith, e)) (omega (arith, e))))

div-moves : (a d : ℕ) → 0 < d → suc a % d ≡ 0 → suc a / d ≡ suc (a / d)
div-moves a d h r = quotient-of (suc a / d) a d h (omega (arith, div-add-mod' (suc a) d))

-- ---- facts from tests on whole numbers
neg-less-one : (n : ℕ) → neg_ℤ (pos n) -ℤ pos 1 ≡ negsuc n
neg-less-one zero = refl
neg-less-one (suc n) = ap negsuc (omega arith)

neg-below : (n : ℕ) → neg_ℤ (pos n) <ℤ pos 0 → 0 < n
neg-below zero h = absurd h.lt
neg-below (suc n) h = omega arith

neg-not-below : (n : ℕ) → pos 0 ≤ℤ neg_ℤ (pos n) → n ≡ 0
neg-not-below zero h = refl
neg-not-below (suc n) h = absurd h.le

pos-not-below : (n : ℕ) → pos n <ℤ pos 0 → ⊥
pos-not-below n h = let k : n < 0 = ltb→lt n 0 h.lt in omega arith

above_zero : (n : ℕ) → pos 1 ≤ℤ pos n → 0 < n
above_zero n h = leb→le 1 n h.le

pub floor-negative : (z d : ℤ) → pos 1 ≤ℤ d → rem_z z d <ℤ pos 0 → quot_z z d -ℤ pos 1 ≡ floor_div z (nat_abs d)
floor-negative (pos a) d p h = absurd (pos-not-below (a % nat_abs d) h)
floor-negative (negsuc a) (pos n) p h = neg-less-one (suc a / n) ∙ ap negsuc (div-stays a n (above_zero n p) (neg-below (suc a % n) h))
floor-negative (negsuc a) (negsuc n) p h = absurd p.le

pub floor-exact : (z d : ℤ) → pos 1 ≤ℤ d → pos 0 ≤ℤ rem_z z d → quot_z z d ≡ floor_div z (nat_abs d)
floor-exact (pos a) (pos n) p h = refl
floor-exact (pos a) (negsuc n) p h = absurd p.le
floor-exact (negsuc a) (pos n) p h = ap (λ (k : ℕ). neg_ℤ (pos k)) (div-moves a n (above_zero n p) (neg-not-below (suc a % n) h))
floor-exact (negsuc a) (negsuc n) p h = absurd p.le

-- the bits of a number above 0 are not 0
pub bits_above : (d : ℤ) → pos 1 ≤ℤ d → 0 < of_z w64 d
bits_above (pos n) p = above_zero n p
bits_above (negsuc n) p = absurd p.le

-- a test's fact, carried from what the machine reads back to the numbers; the second premise is the search's
pub less-yes : {a b : ℤ} {t : Bool} → t ≡ true → t ≡ lt_z a b → a <ℤ b
less-yes h p = record { lt = subst T (sym h ∙ p) tt }

pub less-no : {a b : ℤ} {t : Bool} → t ≡ false → t ≡ lt_z a b → b ≤ℤ a
less-no h p = lt_z_no (subst (λ (u : Bool). T (not u)) (sym h ∙ p) tt)
