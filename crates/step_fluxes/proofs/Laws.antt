-- A face's weighed products are small, every term by its product's size and its weight; the flux that the code makes of a face's sum; and the
-- machine's sums.
use mathlib.Core.Path.{◌≡◌, ap, ◌∙◌}
use mathlib.Core.List.{List}
use Prim.Native.Nat.{ℕ, ◌*◌, ◌%◌, ◌≤◌, ◌<◌}
use native.Mathlib.Omega.{arith}
use lib.IntN.{ℤ, pos, nat_abs, ◌+ℤ◌, ◌*ℤ◌}
use Rattle.whole.specs.Table.{table, at}
use Rattle.whole.specs.Bound.{Within, Are, floor_div}
use Rattle.whole.specs.Sum.{sum, sum_ℤ}
use Rattle.whole.proofs.BoundLaws.{within-le, within-mul, within-pos, within-sum}
use Rattle.whole.proofs.NearestFloor.{nearest-floor}
use Rattle.whole.proofs.NearestLaws.{within-nearest}
use Rattle.whole.proofs.SumLaws.{sum_mono, sum_ℤ-cong}
use Rattle.whole.proofs.TableLaws.{get_d-table}
use Rattle.rules.specs.Field.{quadratic}
use Rattle.rules.specs.Sizes.{flux_size}
use Rattle.step_tendency.specs.Sizes.{product_size}
use Rattle.step_fluxes.specs.Amount.{amount_size, weighed, rounded}
use mir.Syntax.{w64}
use mir.Val.{to_z, of_z, SFits}
use Rattle.whole.proofs.Sizes.{sizes, exacts, fits, exact}

-- ---- numbers as the machine computes them
abbrev pub B : ℤ → ℤ
B z = to_z w64 (of_z w64 z)

-- ---- the sum over a face's nodes
abbrev pub term : (ℕ → ℤ) → ℕ → ℤ
term p r = pos (quadratic.line_weight r) *ℤ p r

-- the sum of the first n terms: the three weights make 6
pub terms-within : {b : ℕ} (p : ℕ → ℤ) → ((r : ℕ) → Within b (p r)) → (n : ℕ) → n ≤ 3 → Within (6 * b) (sum_ℤ n (term p))
unfolding sum quadratic
terms-within {b} p h n l = within-le (within-sum n (term p) bound (λ r _. within-mul (within-pos (quadratic.line_weight r)) (h r))) (omega (arith, sum_mono bound n 3 l))
  where
    bound : ℕ → ℕ
    bound r = quadratic.line_weight r * b

-- a weight, as the code gives it, times a product
module _ {x w : ℤ} {r : ℕ} (h : Within product_size x) (l : r < 3) (g : Are 4 w (pos (quadratic.line_weight r))) where
  pub term-fits : SFits w64 (B w *ℤ B x)
  term-fits = fits (search sizes depth 20) tt

  pub term-is : B (B w *ℤ B x) ≡ pos (quadratic.line_weight r) *ℤ x
  term-is = exact (search exacts depth 20) tt

-- a face's sum with what a stage adds
pub added-exact : {s t m a b : ℤ} → Within amount_size s → Are 4 t m → Are (6 * product_size) a b → B (B s +ℤ B (B t *ℤ B a)) ≡ s +ℤ m *ℤ b
added-exact x y z = exact (search exacts depth 20) tt

-- ---- the flux of a face
-- the code's way: `nearest-floor` at 4096
pub rounded-is : (z : ℤ) → floor_div (pos 2 *ℤ z +ℤ pos 4095 +ℤ pos (nat_abs (floor_div z 4096) % 2)) 8192 ≡ rounded z
unfolding rounded quadratic
rounded-is z = nearest-floor z 4096 (omega arith)

pub rounded-within : (z : ℤ) → Within amount_size z → Within flux_size (rounded z)
unfolding rounded quadratic
rounded-within z h = within-nearest z 4096 flux_size (omega arith) (within-le h (omega arith))

-- the weighed products of a table
pub weighed-table : (p : ℕ → ℤ) (l : List ℤ) → l ≡ table 3 p → weighed (at l) ≡ weighed p
weighed-table p l e = sum_ℤ-cong 3 _ _ (λ r h. ap (λ x. pos (quadratic.line_weight r) *ℤ x) (ap (λ x. at x r) e ∙ get_d-table 3 p r (pos 0) h))
