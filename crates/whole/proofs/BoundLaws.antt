-- How `Within` goes through sums, products, quotients and remainders, and the machine's widths; a number's lowest bit.
use mathlib.Core.Path.{◌≡◌, refl, ap, ◌∙◌}
use mathlib.Core.Bool.{Bool, true, false, not}
use Prim.Native.Nat.{ℕ, zero, suc, ◌+◌, ◌-◌, ◌*◌, ◌/◌, ◌%◌, ◌^◌, ◌≤◌, ◌<◌, zero-le}
use native.Mathlib.Nat.{le_trans, le_refl, le-suc, le_of_lt, le_of_eq, add-le-add, mul-le-mul, mul_comm, mod-le, mod-lt, div-zero, div-le_self, div-mul-le_self, le-div_iff_mul-le, zero-lt-suc, div-le_of_le-mul, div-lt_iff_lt-mul}
use native.Mathlib.Omega.{arith}
use lib.Bits.{bit_and, and_mask}
use lib.Dec.{T, lit<, ltb, ltb→lt, nltb→le}
use lib.IntN.{ℤ, pos, negsuc, neg_ℤ, nat_abs, ◌+ℤ◌, ◌-ℤ◌, ◌*ℤ◌}
use lib.Signed.{mag, quot_z, rem_z}
use mir.Syntax.{Width, w8, w16, w32, w64, w128}
use mir.Val.{bits, hbits, to_z, of_z, sel}
use mir.Facts.{to_z_pos}
use Rattle.whole.specs.Bound.{Within, floor_div}
use Rattle.whole.specs.Sum.{sum, sum_ℤ}
use Rattle.whole.proofs.WholeLaws.{abs_neg, abs-add, abs-mul}

pub within-le : {m n : ℕ} {a : ℤ} → Within m a → m ≤ n → Within n a
within-le p h = record { within = le_trans p.within h }

pub within-add : {m n : ℕ} {a b : ℤ} → Within m a → Within n b → Within (m + n) (a +ℤ b)
within-add {m} {n} {a} {b} p q = record { within = le_trans (abs-add a b) (add-le-add p.within q.within) }

pub within-neg : {n : ℕ} {a : ℤ} → Within n a → Within n (neg_ℤ a)
within-neg {n} {a} p = record { within = rw (abs_neg a) p.within }

pub within-sub : {m n : ℕ} {a b : ℤ} → Within m a → Within n b → Within (m + n) (a -ℤ b)
within-sub {m} {n} {a} {b} p q = within-add p (within-neg q)

pub within-mul : {m n : ℕ} {a b : ℤ} → Within m a → Within n b → Within (m * n) (a *ℤ b)
within-mul {m} {n} {a} {b} p q = record { within = rw (abs-mul a b) (mul-le-mul p.within q.within) }

pub within-pos : (n : ℕ) → Within n (pos n)
within-pos n = record { within = le_refl n }

pub within-neg-suc : (n : ℕ) → Within (suc n) (negsuc n)
within-neg-suc n = record { within = le_refl (suc n) }

pub within-sum : (n : ℕ) (f : ℕ → ℤ) (b : ℕ → ℕ) → ((i : ℕ) → i < n → Within (b i) (f i)) → Within (sum n b) (sum_ℤ n f)
unfolding sum sum_ℤ
within-sum zero f b h = within-pos 0
within-sum (suc n) f b h = within-add (within-sum n f b (λ i l. h i (omega arith))) (h n (omega arith))

-- a floor by d of what is within b d is within b
pub within-floor : (z : ℤ) (d b : ℕ) → 0 < d → Within (b * d) z → Within b (floor_div z d)
within-floor (pos a) d b h k = record { within = div-le_of_le-mul d (le_trans k.within (le_of_eq (mul_comm b d))) }
within-floor (negsuc a) d b h k = record { within = (div-lt_iff_lt-mul h).1 k.within }

-- ---- quotients by a number: the bound is divided too
div_mono : (a b k : ℕ) → a ≤ b → a / k ≤ b / k
div_mono a b zero h = rw (div-zero a) zero-le
div_mono a b (suc k) h = (le-div_iff_mul-le (zero-lt-suc k)).1 (le_trans (div-mul-le_self a (suc k)) h)

abs-floor : (z : ℤ) (k : ℕ) → nat_abs (floor_div z k) ≤ nat_abs z / k + 1
abs-floor (pos a) k = omega arith
abs-floor (negsuc a) k = omega (arith, div_mono a (suc a) k (le-suc a))

pub within-floor-any : (z : ℤ) (k n : ℕ) → Within n z → Within (n / k + 1) (floor_div z k)
within-floor-any z k n p = record { within = le_trans (abs-floor z k) (omega (arith, div_mono (nat_abs z) n k p.within)) }

abs-quot : (a b : ℤ) → nat_abs (quot_z a b) ≤ nat_abs a
abs-quot (pos a) (pos b) = div-le_self a b
abs-quot (pos a) (negsuc b) = rw (abs_neg (pos (a / suc b))) (div-le_self a (suc b))
abs-quot (negsuc a) (pos b) = rw (abs_neg (pos (suc a / b))) (div-le_self (suc a) b)
abs-quot (negsuc a) (negsuc b) = div-le_self (suc a) (suc b)

pub within-quot : {n : ℕ} (a b : ℤ) → Within n a → Within n (quot_z a b)
within-quot a b p = record { within = le_trans (abs-quot a b) p.within }

abs-rem : (a b : ℤ) → nat_abs (rem_z a b) ≤ nat_abs a
abs-rem (pos a) b = mod-le a (nat_abs b)
abs-rem (negsuc a) b = rw (abs_neg (pos (suc a % nat_abs b))) (mod-le (suc a) (nat_abs b))

pub within-rem : {n : ℕ} (a b : ℤ) → Within n a → Within n (rem_z a b)
within-rem a b p = record { within = le_trans (abs-rem a b) p.within }

-- ---- the machine's widths
pub mag-le : (z : ℤ) → mag z ≤ nat_abs z
mag-le (pos n) = le_refl n
mag-le (negsuc n) = omega arith

pub within-mag : (z : ℤ) (n : ℕ) → mag z < n → Within n z
within-mag (pos k) n h = record { within = le_of_lt h }
within-mag (negsuc k) n h = record { within = h }

-- what is read back from its bits is never larger than what was written
sel-ind : (c : Bool) (x y : ℤ) (P : ℤ → Type 0) → (T c → P x) → (T (not c) → P y) → P (sel c x y)
sel-ind true x y P f g = f tt
sel-ind false x y P f g = g tt

back-pos : (n h f : ℕ) → 0 < h → f ≡ h + h → nat_abs (sel (ltb n h) (pos n) (negsuc (f - suc n))) ≤ n
back-pos n h f p e = sel-ind (ltb n h) (pos n) (negsuc (f - suc n)) (λ z. nat_abs z ≤ n) (λ t. le_refl n)
    (λ t. let g : h ≤ n = nltb→le n h t in omega arith)

back-neg : (n h f : ℕ) → 0 < h → f ≡ h + h → nat_abs (sel (ltb (f - suc n) h) (pos (f - suc n)) (negsuc (f - suc (f - suc n)))) ≤ suc n
back-neg n h f p e = sel-ind (ltb (f - suc n) h) (pos (f - suc n)) (negsuc (f - suc (f - suc n))) (λ z. nat_abs z ≤ suc n)
    (λ t. let g : f - suc n < h = ltb→lt (f - suc n) h t in omega arith)
    (λ t. let g : h ≤ f - suc n = nltb→le (f - suc n) h t in omega arith)

halves : (w : Width) → 2 ^ bits w ≡ 2 ^ hbits w + 2 ^ hbits w
halves w8 = refl
halves w16 = refl
halves w32 = refl
halves w64 = refl
halves w128 = refl

half-above : (w : Width) → 2 < 2 ^ hbits w
half-above w8 = lit< tt
half-above w16 = lit< tt
half-above w32 = lit< tt
half-above w64 = lit< tt
half-above w128 = lit< tt

pub abs-back : (w : Width) (z : ℤ) → nat_abs (to_z w (of_z w z)) ≤ nat_abs z
abs-back w (pos n) = back-pos n (2 ^ hbits w) (2 ^ bits w) (omega (arith, half-above w)) (halves w)
abs-back w (negsuc n) = back-neg n (2 ^ hbits w) (2 ^ bits w) (omega (arith, half-above w)) (halves w)

pub within-back : {n : ℕ} (w : Width) (z : ℤ) → Within n z → Within n (to_z w (of_z w z))
within-back w z p = record { within = le_trans (abs-back w z) p.within }

-- the lowest of a number's bits is its parity
odd-bits : (w : Width) (z : ℤ) → nat_abs z < 2 ^ bits w → of_z w z % 2 ≡ nat_abs z % 2
odd-bits w (pos n) h = refl
odd-bits w (negsuc n) h = omega (arith, halves w)

pub low_bit : (w : Width) (z : ℤ) → to_z w (bit_and (of_z w z) 1) ≡ pos (of_z w z % 2)
low_bit w z = ap (to_z w) (and_mask (of_z w z) 1) ∙ to_z_pos w (omega (arith, half-above w, mod-lt (of_z w z) {m = 2} (lit< tt)))

pub parity-bit : (w : Width) (z : ℤ) → nat_abs z < 2 ^ bits w → to_z w (bit_and (of_z w z) 1) ≡ pos (nat_abs z % 2)
parity-bit w z h = low_bit w z ∙ ap pos (odd-bits w z h)
