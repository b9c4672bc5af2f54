-- Document 01, "Closing an element": the limiter, truncation and mass aware rescaling of document 002; and document 02, 2026-04: the clipped mass.
-- Given the signed ψ and a target T it gives an element's numbers and what was clipped; T is a natural.
use Rattle.std.specs.Prelude.{cond, List, [], ◌∷◌, ◌++◌, ℕ, ◌*◌, ◌-◌, ◌/◌, leb, ℤ, pos, ◌+ℤ◌, ◌-ℤ◌, ◌*ℤ◌}
use Rattle.whole.specs.Bound.{floor_div}
use Rattle.whole.specs.Parts.{positive}
use Rattle.whole.specs.Sum.{sum_ℤ}
use Rattle.whole.specs.Table.{table}
use Rattle.rules.specs.Field.{Kind, weight_sum, weighted}

-- "Σ ωaωbψ", the weighted sum of signed values
abbrev pub signed_sum : Kind → (ℕ → ℤ) → ℤ
signed_sum κ ψ = sum_ℤ κ.nodes (λ k. pos (κ.weight k) *ℤ ψ k)

-- 1, levelling (mean adjustment): "add floor((T − Σ ωaωbψ) / 36) to every ψ"
unfoldable pub mean_shift : Kind → (ℕ → ℤ) → ℕ → ℤ
unfolding weight_sum
mean_shift κ ψ t = floor_div (pos t -ℤ signed_sum κ ψ) (weight_sum κ)

unfoldable pub adjusted : Kind → (ℕ → ℤ) → ℕ → ℕ → ℤ
unfolding mean_shift
adjusted κ ψ t k = ψ k +ℤ mean_shift κ ψ t

-- 2, truncation: "negative numbers become 0"
unfoldable pub truncated : (ℕ → ℤ) → ℕ → ℕ
unfolding positive
truncated ψ k = positive (ψ k)

-- document 02, 2026-04, "how much was cut": "P minus the weighted sum of the levelled numbers", the clipped mass: what truncation adds to the
-- weighted sum of ψ, which here are the numbers that it truncates, levelled or not. It is never below 0 (`clipped-difference`), so its positive part is it
unfoldable pub clipped : Kind → (ℕ → ℤ) → ℕ
unfolding weighted truncated positive
clipped κ ψ = positive (pos (weighted κ (truncated ψ)) -ℤ signed_sum κ ψ)

-- 3, scaling (rescaling) of a part v of a sum p to t: "if P ≤ T keep the values, else each becomes floor(value · T / P)"
unfoldable pub rescaled : ℕ → ℕ → ℕ → ℕ
rescaled p t v = cond (leb p t) v (v * t / p)

-- 3 and 4 of the values v: "Let P be the weighted sum now"; "ρ = T minus the weighted sum", which is at most T (`values-le`)
unfoldable pub rescaled_value : Kind → (ℕ → ℕ) → ℕ → ℕ → ℕ
unfolding rescaled weighted
rescaled_value κ v t k = rescaled (weighted κ v) t (v k)

unfoldable pub closing_remainder : Kind → (ℕ → ℕ) → ℕ → ℕ
unfolding weighted rescaled_value
closing_remainder κ v t = t - weighted κ (rescaled_value κ v t)

-- what a closing gives: the element's numbers, and the clipped mass, which "the closing must also give"
pub record Closed : Type 0 where
  pub numbers : List ℕ
  pub clipped : ℕ

-- the closing without levelling: steps 2 to 4; "without levelling it is counted from ψ"
unfoldable pub closed_unlevelled : Kind → (ℕ → ℤ) → ℕ → Closed
unfolding truncated rescaled_value closing_remainder table clipped
closed_unlevelled κ ψ t = record {
  numbers = table κ.nodes (rescaled_value κ (truncated ψ) t) ++ (closing_remainder κ (truncated ψ) t ∷ []);
  clipped = clipped κ ψ;
}

-- the closing: steps 1 to 4
unfoldable pub closed : Kind → (ℕ → ℤ) → ℕ → Closed
unfolding closed_unlevelled adjusted
closed κ ψ t = closed_unlevelled κ (adjusted κ ψ t) t
