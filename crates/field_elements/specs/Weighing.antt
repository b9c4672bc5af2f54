-- An element's numbers under their weights: its values by its nodes' weights, and the remainder once.
use Rattle.std.specs.Prelude.{cond, List, ℕ, ◌+◌, ◌*◌, ◌^◌, ltb, get_or}
use Rattle.whole.specs.Sum.{sum}
use Rattle.rules.specs.Field.{Kind}

-- the weight of number v of an element
unfoldable pub number_weight : Kind → ℕ → ℕ
number_weight κ v = cond (ltb v κ.nodes) (κ.weight v) 1

-- the weighted sum of the first n of the numbers from `start` on
unfoldable pub weighed : Kind → List ℕ → ℕ → ℕ → ℕ
unfolding number_weight
weighed κ l start n = sum n (λ v. number_weight κ v * get_or l (start + v) 0)

-- ten u32, each weighing 16, weigh more than those of any element
abbrev pub most_weighed : ℕ
most_weighed = 10 * 16 * 2 ^ 32
