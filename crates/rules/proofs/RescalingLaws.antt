-- Rescaling, for any number n of terms with weights w: what is left of the sum is at most t, and less than the sum of the
-- weights below it. The closing rescales nodes, the flux correction faces.
use mathlib.Core.Path.{◌≡◌, refl, ap, ◌∙◌}
use Prim.Native.Nat.{ℕ, ◌+◌, ◌*◌, ◌/◌, ◌≤◌, ◌<◌}
use native.Mathlib.Nat.{mul-add, mul-one, mul_comm, mul_left_comm, div-add-mod, mod-lt, mul-le-mul_left, lt_of_mul-lt-mul_left, le_of_mul-le-mul_left}
use native.Mathlib.Omega.{arith}
use lib.Dec.{leb, leb→le, nleb→lt}
use Rattle.whole.proofs.Cases.{cond_ind, either}
use Rattle.whole.proofs.SumLaws.{sum-le, sum-cong, sum-add, sum-mul}
use Rattle.whole.specs.Sum.{sum}
use Rattle.rules.specs.Limiter.{rescaled}

pub rescaled-kept : (p t v : ℕ) → p ≤ t → rescaled p t v ≡ v
unfolding rescaled
rescaled-kept p t v h = cond_ind (leb p t) v (v * t / p) (λ x. x ≡ v) (λ _. refl)
    (λ f. let k : t < p = nleb→lt p t f in let z : ⊥ = omega arith in absurd z)

pub rescaled-cut : (p t v : ℕ) → t < p → rescaled p t v ≡ v * t / p
unfolding rescaled
rescaled-cut p t v h = cond_ind (leb p t) v (v * t / p) (λ x. x ≡ v * t / p)
    (λ f. let k : p ≤ t = leb→le p t f in let z : ⊥ = omega arith in absurd z) (λ _. refl)

-- w times the floor of v t / p, times p, is w v t but for less than w p
swap : (p t v w : ℕ) → t * (w * v) ≡ w * (v * t)
swap p t v w = mul_left_comm t w v ∙ ap (λ x. w * x) (mul_comm t v)

term-low : (p t v w : ℕ) → p * (w * (v * t / p)) ≤ t * (w * v)
term-low p t v w = omega (arith, mul_left_comm p w (v * t / p), swap p t v w, mul-le-mul_left w floor-le)
  where
    floor-le : p * (v * t / p) ≤ v * t
    floor-le = omega (arith, div-add-mod (v * t) p)

term-high : (p t v w : ℕ) → 0 < p → t * (w * v) + w ≤ p * (w * (v * t / p)) + p * w
term-high p t v w h = omega (
  arith,
  mul_left_comm p w (v * t / p),
  swap p t v w,
  mul-le-mul_left w floor-lt,
  mul-add w (v * t) 1,
  mul-add w (p * (v * t / p)) p,
  mul-one w,
  mul_comm w p,
)
  where
    floor-lt : v * t + 1 ≤ p * (v * t / p) + p
    floor-lt = omega (arith, div-add-mod (v * t) p, mod-lt (v * t) h)

module _ (n : ℕ) (w v : ℕ → ℕ) (t : ℕ) where
  -- the weighted sum before rescaling, and after
  abbrev before : ℕ
  before = sum n (λ k. w k * v k)

  abbrev rescaled_sum : ℕ
  rescaled_sum = sum n (λ k. w k * rescaled before t (v k))

  abbrev floors : ℕ → ℕ
  floors k = w k * (v k * t / before)

  kept : before ≤ t → rescaled_sum ≡ before
  kept h = sum-cong n (λ k. w k * rescaled before t (v k)) (λ k. w k * v k) (λ k _. ap (λ x. w k * x) (rescaled-kept before t (v k) h))

  lessened : t < before → rescaled_sum ≡ sum n floors
  lessened h = sum-cong n (λ k. w k * rescaled before t (v k)) floors (λ k _. ap (λ x. w k * x) (rescaled-cut before t (v k) h))

  cut-le : t < before → rescaled_sum ≤ t
  cut-le h =
      let p0 : 0 < before = omega arith in
      let le = sum-le n (λ k. before * floors k) (λ k. t * (w k * v k)) (λ k _. term-low before t (v k) (w k)) in
      le_of_mul-le-mul_left {k = before} (omega (arith, le, ap (λ x. before * x) (lessened h), sum-mul n before floors, sum-mul n t (λ k. w k * v k), mul_comm t before)) p0

  cut-near : t < before → 0 < sum n w → t < rescaled_sum + sum n w
  cut-near h hw =
      let p0 : 0 < before = omega arith in
      let le = sum-le n (λ k. t * (w k * v k) + w k) (λ k. before * floors k + before * w k) (λ k _. term-high before t (v k) (w k) p0) in
      lt_of_mul-lt-mul_left before (omega (
        arith,
        le,
        ap (λ x. before * x) (lessened h),
        sum-mul n before floors,
        sum-mul n t (λ k. w k * v k),
        sum-mul n before w,
        mul_comm t before,
        mul-add before rescaled_sum (sum n w),
        sum-add n (λ k. t * (w k * v k)) w,
        sum-add n (λ k. before * floors k) (λ k. before * w k),
      ))

  -- what is left is at most t
  pub rescaled-le : rescaled_sum ≤ t
  rescaled-le = either (leb before t) (λ c. let h : before ≤ t = leb→le before t c in omega (arith, kept h)) (λ c. cut-le (nleb→lt before t c))

  -- and less than the weights' sum below t, if the sum before was
  pub rescaled-near : 0 < sum n w → t < before + sum n w → t < rescaled_sum + sum n w
  rescaled-near hw h = either (leb before t) (λ c. let k : before ≤ t = leb→le before t c in omega (arith, kept k)) (λ c. cut-near (nleb→lt before t c) hw)
