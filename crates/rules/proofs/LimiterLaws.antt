-- The closing's laws, for any number of nodes whose weights sum to more than 0.
use mathlib.Core.Path.{◌≡◌, ap, ◌∙◌}
use mathlib.Core.List.{[], ◌∷◌, ◌++◌}
use Prim.Native.Nat.{ℕ, ◌+◌, ◌*◌, ◌-◌, ◌≤◌, ◌<◌}
use native.Mathlib.Nat.{mul-add, mul-le-mul_left}
use native.Mathlib.Omega.{arith}
use lib.IntN.{ℤ, pos, ◌+ℤ◌, ◌-ℤ◌, ◌*ℤ◌}
use lib.ListN.{length, get_or, length-append, get_or-append}
use lib.Seq.{get_or_at}
use Rattle.whole.specs.Bound.{floor_div}
use Rattle.whole.specs.Parts.{positive, negative}
use Rattle.whole.specs.Sum.{sum}
use Rattle.whole.specs.Table.{table}
use Rattle.whole.proofs.WholeLaws.{positive-pos, negative-pos, add_parts, sub-parts-of, floor-above}
use Rattle.whole.proofs.SumLaws.{sum-le, sum-cong, sum-add, sum-mul-right, weighted-parts, term-le, sum_ℤ-cong}
use Rattle.whole.proofs.TableLaws.{length-table, get_d-table, table-cong}
use Rattle.rules.specs.Field.{Kind, weight_sum, weighted, element_length}
use Rattle.rules.specs.Limiter.{signed_sum, mean_shift, adjusted, truncated, clipped, rescaled, rescaled_value, closing_remainder, closed_unlevelled, closed}
use Rattle.rules.proofs.RescalingLaws.{rescaled-le, rescaled-near}

-- one node or more, with positive weights, sum to more than 0
pub weight-above : (κ : Kind) → 0 < κ.nodes → 0 < κ.weight 0 → 0 < weight_sum κ
unfolding weight_sum
weight-above κ h k = omega (arith, term-le κ.nodes κ.weight 0 h)

module _ (κ : Kind) (v : ℕ → ℕ) (t : ℕ) where
  pub values-le : weighted κ (rescaled_value κ v t) ≤ t
  unfolding weighted rescaled_value
  values-le = rescaled-le κ.nodes κ.weight v t

  -- the values' weighted sum and the remainder make T
  pub closing-sum : weighted κ (rescaled_value κ v t) + closing_remainder κ v t ≡ t
  unfolding closing_remainder
  closing-sum = omega (arith, values-le)

  -- the remainder is below the weights' sum where the truncated sum is not further below T
  pub remainder-lt : 0 < weight_sum κ → t < weighted κ v + weight_sum κ → closing_remainder κ v t < weight_sum κ
  unfolding closing_remainder weighted rescaled_value weight_sum
  remainder-lt hw h = omega (arith, rescaled-near κ.nodes κ.weight v t hw h, rescaled-le κ.nodes κ.weight v t)

-- ---- levelling leaves the weighted sum above T less the weights' sum, and truncation only adds
adjusted-node : (w : ℕ) (x l : ℤ) → w * positive x + w * positive l ≤ w * positive (x +ℤ l) + (w * negative x + w * negative l)
adjusted-node w x l =
    let c : positive x + positive l ≤ positive (x +ℤ l) + (negative x + negative l) = omega (arith, add_parts x l) in
    omega (arith, mul-le-mul_left w c, mul-add w (positive x) (positive l), mul-add w (positive (x +ℤ l)) (negative x + negative l), mul-add w (negative x) (negative l))

module _ (κ : Kind) (ψ : ℕ → ℤ) (t : ℕ) (hw : 0 < weight_sum κ) where
  adjusted-near : t < weighted κ (truncated (adjusted κ ψ t)) + weight_sum κ
  unfolding weighted truncated adjusted mean_shift weight_sum
  adjusted-near =
      let n = κ.nodes in
      let w = κ.weight in
      let s : ℤ = signed_sum κ ψ in
      let l : ℤ = mean_shift κ ψ t in
      let up : ℕ → ℕ = λ k. w k * positive (ψ k) in
      let down : ℕ → ℕ = λ k. w k * negative (ψ k) in
      let r : ℕ → ℕ = λ k. w k * positive (ψ k +ℤ mean_shift κ ψ t) in
      let le = sum-le n (λ k. up k + w k * positive l) (λ k. r k + (down k + w k * negative l)) (λ k _. adjusted-node (w k) (ψ k) l) in
      omega (
        arith,
        le,
        sum-add n up (λ k. w k * positive l),
        sum-add n r (λ k. down k + w k * negative l),
        sum-add n down (λ k. w k * negative l),
        sum-mul-right n (positive l) w,
        sum-mul-right n (negative l) w,
        weighted-parts n w ψ,
        sub-parts-of (pos t) s,
        positive-pos t,
        negative-pos t,
        floor-above (pos t -ℤ s) (sum n w) hw,
      )

  -- with levelling the remainder is below the weights' sum, whatever ψ and T are
  pub levelled-remainder : closing_remainder κ (truncated (adjusted κ ψ t)) t < weight_sum κ
  levelled-remainder = remainder-lt κ (truncated (adjusted κ ψ t)) t hw adjusted-near

-- without levelling, and for a withdrawal: T is at most the weighted sum and an old remainder
pub withdrawal-remainder : (κ : Kind) (v : ℕ → ℕ) (r q : ℕ) → r < weight_sum κ → q ≤ weighted κ v + r → closing_remainder κ v (weighted κ v + r - q) < weight_sum κ
withdrawal-remainder κ v r q h k = remainder-lt κ v (weighted κ v + r - q) (omega arith) (omega arith)

-- stored values are not truncated
pub truncated-pos : (v : ℕ → ℕ) → truncated (λ k. pos (v k)) ≡ v
unfolding truncated
truncated-pos v = λ i k. positive-pos (v k) i

-- ---- the closed element as a list
module _ (κ : Kind) (ψ : ℕ → ℤ) (t : ℕ) where
  abbrev values : ℕ → ℕ
  values = rescaled_value κ (truncated ψ) t

  pub closed-length : length (closed_unlevelled κ ψ t).numbers ≡ element_length κ
  unfolding closed_unlevelled element_length
  closed-length = length-append (table κ.nodes values) (closing_remainder κ (truncated ψ) t ∷ []) ∙ omega (arith, length-table κ.nodes values)

  pub closed-value : (k : ℕ) → k < κ.nodes → get_or (closed_unlevelled κ ψ t).numbers k 0 ≡ values k
  unfolding closed_unlevelled
  closed-value k h = get_or-append (table κ.nodes values) (closing_remainder κ (truncated ψ) t ∷ []) 0 k (omega (arith, length-table κ.nodes values))
      ∙ get_d-table κ.nodes values k 0 h

  pub closed-remainder : get_or (closed_unlevelled κ ψ t).numbers κ.nodes 0 ≡ closing_remainder κ (truncated ψ) t
  unfolding closed_unlevelled
  closed-remainder = get_or_at (table κ.nodes values) (closing_remainder κ (truncated ψ) t) [] 0 κ.nodes (length-table κ.nodes values)

  -- the list holds T
  pub closed-holds : weighted κ (λ k. get_or (closed_unlevelled κ ψ t).numbers k 0) + get_or (closed_unlevelled κ ψ t).numbers κ.nodes 0 ≡ t
  unfolding weighted
  closed-holds = omega (
    arith,
    closed-remainder,
    closing-sum κ (truncated ψ) t,
    sum-cong κ.nodes (λ k. κ.weight k * get_or (closed_unlevelled κ ψ t).numbers k 0) (λ k. κ.weight k * values k) (λ k h. ap (λ x. κ.weight k * x) (closed-value k h)),
  )

-- ---- the closing reads its nodes only
module _ (κ : Kind) where
  pub weighted-cong : (v w : ℕ → ℕ) → ((k : ℕ) → k < κ.nodes → v k ≡ w k) → weighted κ v ≡ weighted κ w
  unfolding weighted
  weighted-cong v w h = sum-cong κ.nodes (λ k. κ.weight k * v k) (λ k. κ.weight k * w k) (λ k l. ap (λ x. κ.weight k * x) (h k l))

  values-cong : (v w : ℕ → ℕ) (t : ℕ) → ((k : ℕ) → k < κ.nodes → v k ≡ w k) → (k : ℕ) → k < κ.nodes → rescaled_value κ v t k ≡ rescaled_value κ w t k
  unfolding rescaled_value
  values-cong v w t h k l = λ i. rescaled (weighted-cong v w h i) t (h k l i)

  module _ (ψ χ : ℕ → ℤ) (h : (k : ℕ) → k < κ.nodes → ψ k ≡ χ k) where
    signed_sum-cong : signed_sum κ ψ ≡ signed_sum κ χ
    signed_sum-cong = sum_ℤ-cong κ.nodes (λ k. pos (κ.weight k) *ℤ ψ k) (λ k. pos (κ.weight k) *ℤ χ k) (λ k l. ap (λ x. pos (κ.weight k) *ℤ x) (h k l))

    truncated-cong : (k : ℕ) → k < κ.nodes → truncated ψ k ≡ truncated χ k
    unfolding truncated
    truncated-cong k l = ap positive (h k l)

  pub unlevelled-cong : (ψ χ : ℕ → ℤ) (t : ℕ) → ((k : ℕ) → k < κ.nodes → ψ k ≡ χ k) → closed_unlevelled κ ψ t ≡ closed_unlevelled κ χ t
  unfolding closed_unlevelled closing_remainder clipped
  unlevelled-cong ψ χ t h =
      let v = rescaled_value κ (truncated ψ) t in
      let w = rescaled_value κ (truncated χ) t in
      let cut = truncated-cong ψ χ h in
      let same = values-cong (truncated ψ) (truncated χ) t cut in
      λ i. record {
        numbers = table-cong κ.nodes v w same i ++ ((t - weighted-cong v w same i) ∷ []);
        clipped = positive (pos (weighted-cong (truncated ψ) (truncated χ) cut i) -ℤ signed_sum-cong ψ χ h i);
      }

  pub closed-cong : (ψ χ : ℕ → ℤ) (t : ℕ) → ((k : ℕ) → k < κ.nodes → ψ k ≡ χ k) → closed κ ψ t ≡ closed κ χ t
  unfolding closed adjusted mean_shift
  closed-cong ψ χ t h = unlevelled-cong (adjusted κ ψ t) (adjusted κ χ t) t (λ k l. λ i. h k l i +ℤ floor_div (pos t -ℤ signed_sum-cong ψ χ h i) (weight_sum κ))
