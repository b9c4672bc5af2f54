-- The quadratic element's weights, E and the winds' shares: what is worked out are the numbers that document 01 names; and bounds on weights.
use mathlib.Core.Path.{◌≡◌, refl}
use mathlib.Core.List.{[], ◌∷◌}
use Prim.Native.Nat.{ℕ, ◌/◌, ◌%◌, ◌≤◌, ◌<◌}
use native.Mathlib.Omega.{arith}
use lib.Dec.{leb, ltb, leb→le, ltb→lt}
use lib.IntN.{pos, negsuc, ◌*ℤ◌}
use Rattle.whole.specs.Sum.{sum, all}
use Rattle.whole.specs.Table.{table}
use Rattle.whole.proofs.SumLaws.{all-at}
use Rattle.rules.specs.Field.{quadratic, weight_sum}

-- "ω = 1, 4, 1"
pub line-weights-are : table 3 quadratic.line_weight ≡ 1 ∷ 4 ∷ 1 ∷ []
unfolding quadratic table
line-weights-are = refl

-- "Node weight ωaωb", for b = 0, 1, 2 and a = 0, 1, 2
pub weights-are : table 9 quadratic.weight ≡ 1 ∷ 4 ∷ 1 ∷ 4 ∷ 16 ∷ 4 ∷ 1 ∷ 4 ∷ 1 ∷ []
unfolding quadratic table
weights-are = refl

-- "Rows q of E: (−3, 4, −1), (−1, 0, 1), (1, −4, 3)"
pub derivatives-are : table 9 (λ i. quadratic.derivative (i / 3) (i % 3)) ≡ negsuc 2 ∷ pos 4 ∷ negsuc 0 ∷ negsuc 0 ∷ pos 0 ∷ pos 1 ∷ pos 1 ∷ negsuc 3 ∷ pos 3 ∷ []
unfolding quadratic table
derivatives-are = refl

-- "c0 = 2Cw, c1 = Cw + Ce, c2 = 2Ce"
pub west-shares-are : table 3 quadratic.west_share ≡ 2 ∷ 1 ∷ 0 ∷ []
unfolding quadratic table
west-shares-are = refl

-- "the nine weights sum to 36"
pub weights-36 : weight_sum quadratic ≡ 36
unfolding weight_sum quadratic sum
weights-36 = refl

-- every node has a weight, of at most 16
pub weights-above : (k : ℕ) → k < 9 → 0 < quadratic.weight k
unfolding quadratic all
weights-above k h = ltb→lt 0 (quadratic.weight k) (all-at 9 (λ k. ltb 0 (quadratic.weight k)) tt k h)

pub weight-le : (k : ℕ) → k < 9 → quadratic.weight k ≤ 16
unfolding quadratic all
weight-le k h = leb→le (quadratic.weight k) 16 (all-at 9 (λ k. leb (quadratic.weight k) 16) tt k h)

-- a line's weights: at most 4
pub line-weight-le : (a : ℕ) → quadratic.line_weight a ≤ 4
unfolding quadratic
line-weight-le a = omega arith

-- "Node weight ωaωb", of whole numbers
pub node-weight-is : (k : ℕ) → pos (quadratic.line_weight (k % 3)) *ℤ pos (quadratic.line_weight (k / 3)) ≡ pos (quadratic.weight k)
unfolding quadratic
node-weight-is k = refl
