-- A face's amount G, and the amount that is divided by 4096 for it, from the products of the three stages.
use Rattle.std.specs.Prelude.{ℕ, ◌*◌, ℤ, pos, ◌*ℤ◌}
use Rattle.whole.specs.Sum.{sum_ℤ}
use Rattle.whole.specs.Nearest.{nearest}
use Rattle.rules.specs.declared.Shape.{Shape}
use Rattle.rules.specs.Field.{quadratic}
use Rattle.rules.specs.Sizes.{face_sum_size}
use Rattle.step_upwind.specs.Upwind.{face_product}

-- "Σ ω·(..)" along a face
abbrev pub weighed : (ℕ → ℤ) → ℤ
weighed p = sum_ℤ 3 (λ r. pos (quadratic.line_weight r) *ℤ p r)

-- the same of the products of face f in a stage φ
abbrev pub stage_amount : Shape → (ℕ → ℤ) → (ℕ → ℕ → ℤ) → ℕ → ℤ
stage_amount g c φ f = weighed (face_product g c φ f)

-- "G = C · Σ ω·(p0 + 4·p2 + p1) / 4096" of what is divided there, "to the nearest whole number, an exact half to the even one"
unfoldable pub rounded : ℤ → ℤ
unfolding nearest
rounded z = nearest z quadratic.face_divisor

-- what is divided is a wind times a face's sum
abbrev pub amount_size : ℕ
amount_size = 1024 * face_sum_size
