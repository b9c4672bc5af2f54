-- Laws of whole numbers through their two parts. A linear statement on ℤ follows by `omega` from `add_parts` and its like.
use mathlib.Core.Path.{◌≡◌, refl, sym, ap, ◌∙◌}
use Prim.Native.Nat.{ℕ, zero, suc, ◌+◌, ◌*◌, ◌-◌, ◌/◌, ◌≤◌, ◌<◌}
use native.Mathlib.Nat.{mul-zero, div-add-mod, mod-lt, mul-suc}
use native.Mathlib.Omega.{arith}
use borrow.Author.Tests.{lt-ltb}
use lib.Dec.{ltb, le→leb, lt→ltb, ltb→lt, nltb→le}
use lib.IntN.{ℤ, pos, negsuc, neg_ℤ, nat_abs, sub_ℕ, ◌+ℤ◌, ◌-ℤ◌, ◌*ℤ◌}
use lib.Signed.{◌≤ℤ◌}
use Rattle.std.specs.Int.{int_max}
use Rattle.whole.specs.Parts.{positive, negative}
use Rattle.whole.specs.Bound.{floor_div}
use Rattle.whole.proofs.Cases.{cond_ind, cond_yes}

pub positive-pos : (n : ℕ) → positive (pos n) ≡ n
unfolding positive
positive-pos n = refl

pub negative-pos : (n : ℕ) → negative (pos n) ≡ 0
unfolding negative
negative-pos n = refl

pub pos-injective : {a b : ℕ} → pos a ≡ pos b → a ≡ b
unfolding positive
pos-injective h = ap positive h

-- ---- equality and order
eq-parts' : (a b : ℤ) → positive a + negative b ≡ positive b + negative a → a ≡ b
unfolding positive negative
eq-parts' (pos a) (pos b) h = let e : a ≡ b = omega arith in ap pos e
eq-parts' (pos a) (negsuc b) h = let f : ⊥ = omega arith in absurd f
eq-parts' (negsuc a) (pos b) h = let f : ⊥ = omega arith in absurd f
eq-parts' (negsuc a) (negsuc b) h = let e : a ≡ b = omega arith in ap negsuc e

pub eq-parts : {a b : ℤ} → positive a + negative b ≡ positive b + negative a → a ≡ b
eq-parts {a} {b} h = eq-parts' a b h

pub le_parts : (a b : ℤ) → positive a + negative b ≤ positive b + negative a → a ≤ℤ b
unfolding positive negative
le_parts (pos a) (pos b) h = record { le = le→leb a b (omega arith) }
le_parts (pos a) (negsuc b) h = let f : ⊥ = omega arith in absurd f
le_parts (negsuc a) (pos b) h = record { le = tt }
le_parts (negsuc a) (negsuc b) h = record { le = le→leb b a (omega arith) }

-- one of the parts is 0
pub not-below : (z : ℤ) → negative z ≤ positive z → negative z ≡ 0
unfolding positive negative
not-below (pos n) h = refl
not-below (negsuc n) h = let f : ⊥ = omega arith in absurd f

-- a number that is not below 0 is its positive part
pub pos-positive : (z : ℤ) → negative z ≡ 0 → pos (positive z) ≡ z
unfolding positive negative
pos-positive (pos n) h = refl
pos-positive (negsuc n) h = let f : ⊥ = omega arith in absurd f

-- ---- sum, negation, difference, a natural's multiple
sub_parts : (a b : ℕ) → positive (sub_ℕ a b) + b ≡ negative (sub_ℕ a b) + a
unfolding positive negative
sub_parts a b = cond_ind (ltb a b) (negsuc (b - suc a)) (pos (a - b)) (λ z. positive z + b ≡ negative z + a)
    (λ t. let h : a < b = ltb→lt a b t in omega arith)
    (λ t. let h : b ≤ a = nltb→le a b t in omega arith)

pub add_parts : (a b : ℤ) → positive (a +ℤ b) + (negative a + negative b) ≡ negative (a +ℤ b) + (positive a + positive b)
unfolding positive negative
add_parts (pos a) (pos b) = omega arith
add_parts (pos a) (negsuc b) = omega (arith, sub_parts a (suc b))
add_parts (negsuc a) (pos b) = omega (arith, sub_parts b (suc a))
add_parts (negsuc a) (negsuc b) = omega arith

pub positive-neg : (a : ℤ) → positive (neg_ℤ a) ≡ negative a
unfolding positive negative
positive-neg (pos zero) = refl
positive-neg (pos (suc n)) = refl
positive-neg (negsuc n) = refl

pub negative-neg : (a : ℤ) → negative (neg_ℤ a) ≡ positive a
unfolding positive negative
negative-neg (pos zero) = refl
negative-neg (pos (suc n)) = refl
negative-neg (negsuc n) = refl

pub sub-parts-of : (a b : ℤ) → positive (a -ℤ b) + (negative a + positive b) ≡ negative (a -ℤ b) + (positive a + negative b)
sub-parts-of a b = omega (arith, add_parts a (neg_ℤ b), positive-neg b, negative-neg b)

pub positive-mul : (w : ℕ) (a : ℤ) → positive (pos w *ℤ a) ≡ w * positive a
unfolding positive negative
positive-mul w (pos a) = refl
positive-mul w (negsuc a) = positive-neg (pos (w * suc a)) ∙ sym (mul-zero w)

pub negative-mul : (w : ℕ) (a : ℤ) → negative (pos w *ℤ a) ≡ w * negative a
unfolding positive negative
negative-mul w (pos a) = sym (mul-zero w)
negative-mul w (negsuc a) = negative-neg (pos (w * suc a))

-- what a sum takes below 0 is at most what its terms do
negative-sub : (a b : ℕ) → negative (sub_ℕ a b) ≤ b
unfolding negative
negative-sub a b = cond_ind (ltb a b) (negsuc (b - suc a)) (pos (a - b)) (λ z. negative z ≤ b)
    (λ t. let h : a < b = ltb→lt a b t in omega arith) (λ t. omega arith)

pub negative-add : (a b : ℤ) → negative (a +ℤ b) ≤ negative a + negative b
unfolding negative
negative-add (pos a) (pos b) = omega arith
negative-add (pos a) (negsuc b) = omega (arith, negative-sub a (suc b))
negative-add (negsuc a) (pos b) = omega (arith, negative-sub b (suc a))
negative-add (negsuc a) (negsuc b) = omega arith

pub negative-diff : (a b : ℤ) → negative (a -ℤ b) ≤ negative a + positive b
negative-diff a b = omega (arith, negative-add a (neg_ℤ b), negative-neg b)

-- ---- the floor of a quotient, from below and from above: d q ≤ z < d q + d
pub floor-below : (z : ℤ) (d : ℕ) → 0 < d → d * positive (floor_div z d) + negative z ≤ positive z + d * negative (floor_div z d)
unfolding positive negative
floor-below (pos a) d h = omega (arith, div-add-mod a d, mul-zero d)
floor-below (negsuc a) d h = omega (arith, div-add-mod a d, mod-lt a h, mul-suc d (a / d), mul-zero d)

pub floor-above : (z : ℤ) (d : ℕ) → 0 < d → positive z + d * negative (floor_div z d) < d * positive (floor_div z d) + negative z + d
unfolding positive negative
floor-above (pos a) d h = omega (arith, div-add-mod a d, mod-lt a h, mul-zero d)
floor-above (negsuc a) d h = omega (arith, div-add-mod a d, mul-suc d (a / d), mul-zero d)

-- ---- sizes
pub abs-parts : (z : ℤ) → nat_abs z ≡ positive z + negative z
unfolding positive negative
abs-parts (pos a) = omega arith
abs-parts (negsuc a) = omega arith

pub abs_neg : (z : ℤ) → nat_abs (neg_ℤ z) ≡ nat_abs z
abs_neg (pos zero) = refl
abs_neg (pos (suc a)) = refl
abs_neg (negsuc a) = refl

pub abs-add : (a b : ℤ) → nat_abs (a +ℤ b) ≤ nat_abs a + nat_abs b
abs-add a b = omega (arith, abs-parts (a +ℤ b), abs-parts a, abs-parts b, add_parts a b, negative-add a b)

pub abs-mul : (a b : ℤ) → nat_abs (a *ℤ b) ≡ nat_abs a * nat_abs b
abs-mul (pos a) (pos b) = refl
abs-mul (pos a) (negsuc b) = abs_neg (pos (a * suc b))
abs-mul (negsuc a) (pos b) = abs_neg (pos (suc a * b))
abs-mul (negsuc a) (negsuc b) = refl

-- ---- what tests against 0 say of the positive part
pub above-positive : (z : ℤ) → pos 0 ≤ℤ z → z ≡ pos (positive z)
unfolding positive
above-positive (pos n) h = refl
above-positive (negsuc n) h = absurd h.le

pub positive-le : (z : ℤ) → positive z ≤ nat_abs z
positive-le z = omega (arith, abs-parts z)

pub negative-le : (z : ℤ) → negative z ≤ nat_abs z
negative-le z = omega (arith, abs-parts z)

-- ---- the larger of a number and 0
pub max-positive : (z : ℤ) → int_max z (pos 0) ≡ pos (positive z)
unfolding positive
max-positive (pos zero) = refl
max-positive (pos (suc n)) = cond_yes (ltb 0 (suc n)) _ _ (lt→ltb 0 (suc n) (omega arith))
max-positive (negsuc n) = refl

zero-less : (z : ℤ) → pos 0 -ℤ z ≡ neg_ℤ z
zero-less (pos zero) = refl
zero-less (pos (suc n)) = let e : suc n - 1 ≡ n = omega arith in rw (lt-ltb 0 (suc n) (omega arith)) (ap negsuc e)
zero-less (negsuc n) = ap pos (omega arith)

negated : (z : ℤ) → int_max (neg_ℤ z) (pos 0) ≡ pos (negative z)
unfolding negative
negated (pos zero) = refl
negated (pos (suc n)) = refl
negated (negsuc n) = cond_yes (ltb 0 (suc n)) _ _ (lt→ltb 0 (suc n) (omega arith))

pub max-negative : (z : ℤ) → int_max (pos 0 -ℤ z) (pos 0) ≡ pos (negative z)
max-negative z = ap (λ x. int_max x (pos 0)) (zero-less z) ∙ negated z
