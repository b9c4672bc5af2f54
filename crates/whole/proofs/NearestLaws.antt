-- Rounding to the nearest: which test leads to which quotient, how large it is, and that equal fractions are rounded alike.
use mathlib.Core.Path.{◌≡◌, refl, sym, ap, ◌∙◌}
use mathlib.Core.Bool.{Bool, true, false, cond}
use Prim.Native.Nat.{ℕ, zero, suc, ◌+◌, ◌*◌, ◌/◌, ◌%◌, ◌≤◌, ◌<◌}
use borrow.Author.Tests.{lt-ltb, le-ltb, ltb-true, ltb-false}
use native.Mathlib.Nat.{add-zero, zero-div, zero-mod, div-add-mod', le-mul_of_pos_right, le-div_iff_mul-le, le_of_mul-le-mul_right, lt_of_mul-lt-mul_right, div-eq_of_lt, mod-eq_of_lt, mul_assoc, mul_comm, mul-div_cancel, mul-div-mul_right, mul-mod_left, mul-le-mul_right, mul-lt-mul_of_pos_right, mod-lt}
use native.Mathlib.Decide.{dec_lt}
use native.Mathlib.Omega.{arith}
use lib.Arith.{mod-mul}
use lib.Dec.{ltb, nltb→le}
use lib.IntN.{ℤ, pos, negsuc, neg_ℤ, nat_abs}
use Rattle.whole.specs.Bound.{Within}
use Rattle.whole.specs.Nearest.{nearest_natural, nearest}
use Rattle.whole.proofs.Cases.{cond_ind, cond_same}
use Rattle.whole.proofs.WholeLaws.{abs_neg}

module _ (n d : ℕ) where
  pub quotient : 2 * (n % d) < d → n / d ≡ nearest_natural n d
  unfolding nearest_natural
  quotient h = rw (lt-ltb (2 * (n % d)) d h) (omega arith)

  pub one_more : d < 2 * (n % d) → n / d + 1 ≡ nearest_natural n d
  unfolding nearest_natural
  one_more h = rw (le-ltb (2 * (n % d)) d (omega arith), lt-ltb d (2 * (n % d)) h)

  pub even-one : d ≤ 2 * (n % d) → 2 * (n % d) ≤ d → n / d + n / d % 2 ≡ nearest_natural n d
  unfolding nearest_natural
  even-one h k = rw (le-ltb (2 * (n % d)) d h, le-ltb d (2 * (n % d)) k)

  -- both tests in one: at a half, an odd quotient goes one up
  pub one-up : d < 2 * (n % d) + n / d % 2 → n / d + 1 ≡ nearest_natural n d
  one-up h = go (dec_lt d (2 * (n % d)))
    where
      go : Dec (d < 2 * (n % d)) → n / d + 1 ≡ nearest_natural n d
      go (yes l) = one_more l
      go (no l) = let odd : n / d % 2 ≡ 1 = omega (arith, mod-lt (n / d) {m = 2} (omega arith)) in sym (ap (λ k. n / d + k) odd) ∙ even-one (omega arith) (omega arith)

  pub none-up : 2 * (n % d) + n / d % 2 ≤ d → n / d ≡ nearest_natural n d
  none-up h = go (dec_lt (2 * (n % d)) d)
    where
      go : Dec (2 * (n % d) < d) → n / d ≡ nearest_natural n d
      go (yes l) = quotient l
      go (no l) = let even : n / d % 2 ≡ 0 = omega arith in let z : n / d + n / d % 2 ≡ n / d = omega arith in sym z ∙ even-one (omega arith) (omega arith)

  -- where there is a rest, one more than the quotient is at most n
  pub more-fits : 0 < d → 0 < n % d → n / d + 1 ≤ n
  more-fits h r = omega (arith, div-add-mod' n d, le-mul_of_pos_right {m = d} (n / d) h)

-- ---- how large it is
module _ (n d k : ℕ) (h : 0 < d) where
  pub at_least : k * d ≤ n → k ≤ nearest_natural n d
  unfolding nearest_natural
  at_least l = omega (arith, (le-div_iff_mul-le {x = k} {y = n} h).1 l)

  -- where the quotient is k there is no rest, and nothing is added
  pub at_most : n ≤ k * d → nearest_natural n d ≤ k
  unfolding nearest_natural
  at_most l = cond_ind (ltb (2 * (n % d)) d) 0 (cond (ltb d (2 * (n % d))) 1 (n / d % 2)) (λ x. n / d + x ≤ k)
      (λ _. omega (arith, le_of_mul-le-mul_right {m = n / d} {n = k} {k = d} (omega (arith, div-add-mod' n d)) h))
      (λ t.
      let half = nltb→le (2 * (n % d)) d t in
      let q : n / d < k = lt_of_mul-lt-mul_right d (omega (arith, div-add-mod' n d)) in
      cond_ind (ltb d (2 * (n % d))) 1 (n / d % 2) (λ x. n / d + x ≤ k) (λ _. omega arith) (λ _. omega arith))

pub rounds-to-zero : (n d : ℕ) → 2 * n < d → nearest_natural n d ≡ 0
unfolding nearest_natural
rounds-to-zero n d h =
    let q : n / d ≡ 0 = div-eq_of_lt (omega arith) in
    let r : n % d ≡ n = mod-eq_of_lt (omega arith) in
    rw (r, q, lt-ltb (2 * n) d h)

-- ---- equal fractions are rounded alike
test-scaled : (a b c : ℕ) → 0 < c → ltb (a * c) (b * c) ≡ ltb a b
test-scaled a b c h = go (ltb a b) refl
  where
    go : (t : Bool) → ltb a b ≡ t → ltb (a * c) (b * c) ≡ t
    go true e = lt-ltb (a * c) (b * c) (mul-lt-mul_of_pos_right (ltb-true a b e) h)
    go false e = le-ltb (a * c) (b * c) (mul-le-mul_right c (ltb-false a b e))

rest-scaled : (n d c : ℕ) → 0 < d → 0 < c → n * c % (d * c) ≡ n % d * c
rest-scaled n d c hd hc = mod-mul (n * c) hd hc ∙ rw (mul-div_cancel n hc, mul-mod_left n c, add-zero)

scaled : (n d c : ℕ) → 0 < d → 0 < c → nearest_natural (n * c) (d * c) ≡ nearest_natural n d
unfolding nearest_natural
scaled n d c hd hc =
    let r : 2 * (n % d * c) ≡ 2 * (n % d) * c = sym (mul_assoc 2 (n % d) c) in
    rw (rest-scaled n d c hd hc, mul-div-mul_right n d hc, r, test-scaled (2 * (n % d)) d c hc, test-scaled d (2 * (n % d)) c hc)

pub same-fraction : (a b c d : ℕ) → 0 < b → 0 < d → a * d ≡ c * b → nearest_natural a b ≡ nearest_natural c d
same-fraction a b c d hb hd e =
    sym (scaled a b d hb hd) ∙ ap (λ x. nearest_natural x (b * d)) e ∙ ap (nearest_natural (c * b)) (mul_comm b d) ∙ scaled c d b hd hb

-- ---- the sign passes through
pub nearest-neg : (n d : ℕ) → nearest (neg_ℤ (pos n)) d ≡ neg_ℤ (pos (nearest_natural n d))
unfolding nearest nearest_natural
nearest-neg zero d = rw (zero-div d, zero-mod d, le-ltb d 0 (omega arith), cond_same {A = ℕ} (ltb 0 d))
nearest-neg (suc n) d = refl

-- ---- the size of a signed one
abs-nearest : (z : ℤ) (d : ℕ) → nat_abs (nearest z d) ≡ nearest_natural (nat_abs z) d
unfolding nearest
abs-nearest (pos n) d = refl
abs-nearest (negsuc n) d = abs_neg (pos (nearest_natural (suc n) d))

-- rounded to the nearest by d, what is within b d is within b
pub within-nearest : (z : ℤ) (d b : ℕ) → 0 < d → Within (b * d) z → Within b (nearest z d)
within-nearest z d b h p = record { within = rw (abs-nearest z d) (at_most (nat_abs z) d b h p.within) }
