-- Products of whole numbers, and the floor of a quotient whose two sides have a factor in common.
use mathlib.Core.Path.{◌≡◌, ap, sym, ◌∙◌}
use Prim.Native.Nat.{ℕ, zero, suc, ◌+◌, ◌*◌, ◌/◌, ◌<◌}
use native.Mathlib.Nat.{mul-div-mul_left, div-div-eq-div-mul}
use native.Mathlib.Omega.{arith}
use borrow.Author.Differences.{up, down, sum_is_lem, product_is}
use lib.IntN.{ℤ, pos, negsuc, neg_ℤ, ◌+ℤ◌, ◌*ℤ◌}
use Rattle.std.proofs.lemmas.Nat.{div-mul-add}
use Rattle.std.proofs.lemmas.Int.{ints}
use Rattle.whole.specs.Bound.{floor_div}

-- an equation of naturals, times the two parts of a whole number
times : (x : ℤ) {m n : ℕ} → m ≡ n → (m * up x ≡ n * up x) × (m * down x ≡ n * down x)
times x e = (ap (λ k. k * up x) e, ap (λ k. k * down x) e)

pub product_assoc : (a b c : ℤ) → a *ℤ b *ℤ c ≡ a *ℤ (b *ℤ c)
product_assoc a b c = omega (arith, ints, times c (product_is a b).0, times c (product_is a b).1, times a (product_is b c).0, times a (product_is b c).1)

pub sum-product : (a b c : ℤ) → (a +ℤ b) *ℤ c ≡ a *ℤ c +ℤ b *ℤ c
sum-product a b c = omega (arith, ints, times c (sum_is_lem a b))

pub product-sum : (a b c : ℤ) → a *ℤ (b +ℤ c) ≡ a *ℤ b +ℤ a *ℤ c
product-sum a b c = omega (arith, ints, times a (sum_is_lem b c))

-- n z / n d is z / d, rounded down
pub floor-common : (n d : ℕ) (z : ℤ) → 0 < n → floor_div (pos n *ℤ z) (n * d) ≡ floor_div z d
floor-common n d (pos a) h = ap pos (mul-div-mul_left a d h)
floor-common zero d (negsuc a) h = let c : ⊥ = omega arith in absurd c
floor-common (suc m) d (negsuc a) h =
    let e : suc m * suc a ≡ suc (a * suc m + m) = omega arith in
    ap (λ (k : ℕ). floor_div (neg_ℤ (pos k)) (suc m * d)) e
    ∙ ap negsuc (sym (div-div-eq-div-mul (a * suc m + m) (suc m) d) ∙ ap (λ (k : ℕ). k / d) (div-mul-add a (suc m) m (omega arith)))
