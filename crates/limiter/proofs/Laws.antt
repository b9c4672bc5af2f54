-- The closing's sums are within bounds: every term by its value's size and its weight, and nine weights make 36. And its values: those of a list that is
-- a table, and those that it closes with.
use mathlib.Core.Path.{◌≡◌, sym, ap, subst, ◌∙◌}
use mathlib.Core.List.{List, [], ◌∷◌, ◌++◌}
use Prim.Native.Nat.{ℕ, ◌*◌, ◌-◌, ◌^◌, ◌≤◌, ◌<◌}
use native.Mathlib.Nat.{mul-le-mul_left, mul-le-mul_right, one-mul}
use native.Mathlib.Omega.{arith}
use lib.IntN.{ℤ, pos, ◌+ℤ◌, ◌*ℤ◌}
use lib.ListN.{length, take}
use lib.Seq.{take-length}
use mir.Syntax.{w64}
use mir.Val.{to_z, of_z, Fits, SFits}
use Rattle.whole.proofs.Sizes.{sizes, exacts, fits, exact}
use Rattle.whole.specs.Table.{at, table}
use Rattle.whole.specs.Bound.{Within, Are, AllWithin}
use Rattle.whole.specs.Sum.{sum, sum_ℤ}
use Rattle.whole.proofs.BoundLaws.{within-le, within-add, within-mul, within-pos, within-sum}
use Rattle.whole.proofs.SumLaws.{sum-le, sum-mul-right, sum_mono, term-le, weighted-raised}
use Rattle.whole.proofs.TableLaws.{get_d-table, table-all, table-cong, table-take}
use Rattle.whole.proofs.WholeLaws.{positive-le, negative-le}
use Rattle.rules.specs.Field.{quadratic, weight_sum, weighted}
use Rattle.rules.specs.Limiter.{signed_sum, truncated, clipped, rescaled, rescaled_value, closing_remainder}
use Rattle.rules.specs.Sizes.{closing_size, shift_size, levelled_size, clipped_size}
use Rattle.rules.proofs.ClippedLaws.{clipped-le}
use Rattle.rules.proofs.LimiterLaws.{values-le, weighted-cong}
use Rattle.rules.proofs.QuadraticLaws.{weights-36, weights-above}
use Rattle.limiter.specs.Shifted.{shifted}
use Rattle.limiter.specs.Values.{value_of, AllUpTo}

-- one term of the signed sum
abbrev pub term : List ℤ → ℕ → ℤ
term l k = pos (quadratic.weight k) *ℤ at l k

-- a weight, as the code gives it, times a value
module _ {l : List ℤ} {k : ℕ} {w : ℤ} (h : AllWithin closing_size l) (q : k < 9) (g : Are 16 w (pos (quadratic.weight k))) where
  pub term-fits : SFits w64 (to_z w64 (of_z w64 w) *ℤ to_z w64 (of_z w64 (at l k)))
  term-fits = let b = h.all k in fits (search sizes depth 20) tt

  pub term-is : to_z w64 (of_z w64 (to_z w64 (of_z w64 w) *ℤ to_z w64 (of_z w64 (at l k)))) ≡ term l k
  term-is = let b = h.all k in exact (search exacts depth 20) tt

-- the sum of the first n terms: 36 times the largest value at most
pub terms-within : (l : List ℤ) (n : ℕ) → AllWithin closing_size l → n ≤ 9 → Within (36 * closing_size) (sum_ℤ n (term l))
unfolding sum quadratic
terms-within l n h k = within-le (within-sum n (term l) bound each) (sum_mono bound n 9 k)
  where
    bound : ℕ → ℕ
    bound i = quadratic.weight i * closing_size

    each : (i : ℕ) → i < n → Within (bound i) (term l i)
    each i q = within-mul (within-pos (quadratic.weight i)) (h.all i)

-- the weighted sum of all nine
pub sum-within : (l : List ℤ) → AllWithin closing_size l → Within (36 * closing_size) (signed_sum quadratic (at l))
unfolding quadratic
sum-within l h = terms-within l 9 h (omega arith)

-- ---- nine values, none of them negative, and their weighted sum
module _ (v : ℕ → ℕ) (k : ℕ) (h : k < 9) where
  node-le : quadratic.weight k * v k ≤ weighted quadratic v
  unfolding weighted quadratic
  node-le = term-le 9 (λ k. quadratic.weight k * v k) k h

  value-le : v k ≤ weighted quadratic v
  value-le = omega (arith, mul-le-mul_right (v k) (weights-above k h), one-mul (v k), node-le)

-- a node's weight, as the code gives it, times its value fits where the sum does
pub node-fits : (l : List ℕ) (k : ℕ) {w : ℕ} → k < 9 → weighted quadratic (value_of l) < 2 ^ 64 → w ≡ quadratic.weight k → Fits w64 (w * value_of l k)
node-fits l k h b e = record { fits = rw e (omega (arith, b, node-le (value_of l) k h)) }

-- a value is at most their sum
pub value-le-sum : (l : List ℕ) (k : ℕ) {p : ℕ} → k < 9 → p ≡ weighted quadratic (value_of l) → value_of l k ≤ p
value-le-sum l k h e = rw e (value-le (value_of l) k h)

-- the sum of values of at most m
pub weighted-le : (v : ℕ → ℕ) (m : ℕ) → ((k : ℕ) → k < 9 → v k ≤ m) → weighted quadratic v ≤ 36 * m
unfolding weighted weight_sum quadratic
weighted-le v m h = omega (
  arith,
  sum-le 9 (λ k. quadratic.weight k * v k) (λ k. quadratic.weight k * m) (λ k l. mul-le-mul_left (quadratic.weight k) (h k l)),
  sum-mul-right 9 m quadratic.weight,
  ap (λ w. w * m) weights-36,
)

-- an array's values are a table's
pub table-self : {l : List ℕ} → length l ≡ 9 → l ≡ table 9 (value_of l)
table-self {l} e = sym (table-take 9 l 0 (omega (arith, e)) ∙ ap (λ n. take n l) (sym e) ∙ take-length l)

-- of a list that is a table: its values, their sum, and what is at least each
module _ {l : List ℕ} (f : ℕ → ℕ) (e : l ≡ table 9 f) where
  pub value_is : (k : ℕ) → k < 9 → value_of l k ≡ f k
  value_is k h = ap (λ x. value_of x k) e ∙ get_d-table 9 f k 0 h

  pub weighted_is : weighted quadratic (value_of l) ≡ weighted quadratic f
  unfolding quadratic
  weighted_is = weighted-cong quadratic (value_of l) f value_is

  pub up-to : {m : ℕ} → ((k : ℕ) → k < 9 → f k ≤ m) → AllUpTo m l
  up-to {m} h = record { all = λ k. rw e (table-all (λ x. x ≤ m) 9 f 0 (omega arith) h k) }

-- ---- after levelling and truncation
module _ (l : List ℤ) (s : ℤ) where
  abbrev pub cut_value : ℕ → ℕ
  cut_value = truncated (shifted l s)

  -- their weighted sum before truncation, by that of the values
  pub sum-shifted : signed_sum quadratic (at l) +ℤ pos 36 *ℤ s ≡ signed_sum quadratic (shifted l s)
  unfolding weight_sum
  sum-shifted = ap (λ w. signed_sum quadratic (at l) +ℤ pos w *ℤ s) (sym weights-36) ∙ sym (weighted-raised quadratic.nodes quadratic.weight (at l) s)

  module _ (h : AllWithin closing_size l) (b : Within shift_size s) where
    pub cut_value-le : (k : ℕ) → k < 9 → cut_value k ≤ levelled_size
    unfolding truncated
    cut_value-le k q = omega (arith, positive-le (at l k +ℤ s), (within-add (h.all k) b).within)

    pub clipped-le_size : clipped quadratic (shifted l s) ≤ clipped_size
    unfolding quadratic
    clipped-le_size = omega (arith, weights-36, clipped-le quadratic (shifted l s) levelled_size (λ k q. omega (arith, negative-le (at l k +ℤ s), (within-add (h.all k) b).within)))

    pub cut_sum : weighted quadratic cut_value ≤ 36 * levelled_size
    cut_sum = weighted-le cut_value levelled_size cut_value-le

    pub sum-shifted-within : Within (36 * levelled_size) (signed_sum quadratic (shifted l s))
    sum-shifted-within = subst (Within (36 * levelled_size)) sum-shifted (within-le (within-add (sum-within l h) (within-mul (within-pos 36) b)) (omega arith))

-- ---- the closed values r: those of l, with the sum p, rescaled to t
module _ {l r : List ℕ} {p : ℕ} (v : ℕ → ℕ) (t : ℕ) (made : l ≡ table 9 v) (summed : p ≡ weighted quadratic (value_of l)) (scaled : r ≡ table 9 (λ k. rescaled p t (value_of l k))) where
  closed_values : r ≡ table 9 (rescaled_value quadratic v t)
  unfolding rescaled_value
  closed_values = scaled ∙ table-cong 9 (λ k. rescaled p t (value_of l k)) (rescaled_value quadratic v t) (λ k h. λ i. rescaled ((summed ∙ weighted_is v made) i) t (value_is v made k h i))

  closed_sum : weighted quadratic (value_of r) ≡ weighted quadratic (rescaled_value quadratic v t)
  closed_sum = weighted_is (rescaled_value quadratic v t) closed_values

  pub closed_sum-le : weighted quadratic (value_of r) ≤ t
  closed_sum-le = omega (arith, closed_sum, values-le quadratic v t)

  pub closed_numbers : r ++ ((t - weighted quadratic (value_of r)) ∷ []) ≡ table 9 (rescaled_value quadratic v t) ++ (closing_remainder quadratic v t ∷ [])
  unfolding closing_remainder
  closed_numbers = λ i. closed_values i ++ ((t - closed_sum i) ∷ [])
