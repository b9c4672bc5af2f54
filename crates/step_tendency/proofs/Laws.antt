-- What a line of nodes brings to the tendency is document 01's X (or Y) without the factors that the tendency divides away, and the tendency made of
-- the lines is the rules': each place of a line by one linear equation of whole numbers, the rest by congruence.
use mathlib.Core.Path.{◌≡◌, sym, ap, ap₂, ◌∙◌}
use mathlib.Core.List.{[], ◌∷◌}
use Prim.Native.Nat.{ℕ, zero, suc, ◌+◌, ◌*◌, ◌/◌, ◌%◌, ◌<◌}
use native.Mathlib.Nat.{mul_comm}
use native.Mathlib.Omega.{arith}
use lib.IntN.{ℤ, pos, negsuc, ◌+ℤ◌, ◌-ℤ◌, ◌*ℤ◌}
use lib.ListN.{get_or}
use Rattle.std.proofs.lemmas.Int.{ints}
use Rattle.whole.specs.Bound.{Within, AllWithin, floor_div}
use Rattle.whole.specs.Sum.{sum_ℤ}
use Rattle.whole.specs.Table.{table, at}
use Rattle.whole.proofs.BoundLaws.{within-le, within-pos}
use Rattle.whole.proofs.ProductLaws.{product_assoc, sum-product, product-sum, floor-common}
use Rattle.whole.proofs.TableLaws.{get_d-table}
use Rattle.rules.specs.Field.{quadratic}
use Rattle.rules.specs.Stages.{node, place_wind, advection}
use Rattle.step_tendency.specs.Line.{place_sums, line_tendency, way_line, element_tendency, local_tendency}

-- ---- three numbers as a list: each is another's, each is within n
pub three-same : {a b d a' b' d' : ℤ} → a ≡ a' → b ≡ b' → d ≡ d' → a ∷ b ∷ d ∷ [] ≡ a' ∷ b' ∷ d' ∷ []
three-same p q r = λ i. p i ∷ q i ∷ r i ∷ []

pub three-within : {n : ℕ} (a b d : ℤ) → Within n a → Within n b → Within n d → AllWithin n (a ∷ b ∷ d ∷ [])
three-within {n} a b d p q r = record { all = each }
  where
    each : (i : ℕ) → Within n (get_or (a ∷ b ∷ d ∷ []) i (pos 0))
    each zero = p
    each (suc zero) = q
    each (suc (suc zero)) = r
    each (suc (suc (suc i))) = within-le (within-pos 0) (omega arith)

-- ---- a line
-- X at the first place, the middle one and the last: a0, a1, a2 are the first end's wind times the values at the three nodes, b0, b1, b2 the last
-- end's wind times them, and f is the product of the upwind value at that end of the line
first-place : (a0 a1 a2 b0 b1 b2 f : ℤ)
    → pos 0 +ℤ pos 1 *ℤ (pos 2 *ℤ a0 +ℤ pos 0 *ℤ b0) *ℤ negsuc 2 +ℤ pos 4 *ℤ (pos 1 *ℤ a1 +ℤ pos 1 *ℤ b1) *ℤ negsuc 0 +ℤ pos 1 *ℤ (pos 0 *ℤ a2 +ℤ pos 2 *ℤ b2) *ℤ pos 1 -ℤ pos 0 +ℤ pos 12 *ℤ f
    ≡ pos 2 *ℤ (pos 3 *ℤ (pos 2 *ℤ f -ℤ a0) +ℤ (b2 -ℤ pos 2 *ℤ (a1 +ℤ b1)))
first-place a0 a1 a2 b0 b1 b2 f = omega (arith, ints)

middle-place : (a0 a1 a2 b0 b1 b2 : ℤ)
    → pos 0 +ℤ pos 1 *ℤ (pos 2 *ℤ a0 +ℤ pos 0 *ℤ b0) *ℤ pos 4 +ℤ pos 4 *ℤ (pos 1 *ℤ a1 +ℤ pos 1 *ℤ b1) *ℤ pos 0 +ℤ pos 1 *ℤ (pos 0 *ℤ a2 +ℤ pos 2 *ℤ b2) *ℤ negsuc 3 -ℤ pos 0 +ℤ pos 0
    ≡ pos 8 *ℤ (a0 -ℤ b2)
middle-place a0 a1 a2 b0 b1 b2 = omega (arith, ints)

last-place : (a0 a1 a2 b0 b1 b2 f : ℤ)
    → pos 0 +ℤ pos 1 *ℤ (pos 2 *ℤ a0 +ℤ pos 0 *ℤ b0) *ℤ negsuc 0 +ℤ pos 4 *ℤ (pos 1 *ℤ a1 +ℤ pos 1 *ℤ b1) *ℤ pos 1 +ℤ pos 1 *ℤ (pos 0 *ℤ a2 +ℤ pos 2 *ℤ b2) *ℤ pos 3 -ℤ pos 12 *ℤ f +ℤ pos 0
    ≡ pos 2 *ℤ (pos 3 *ℤ (b2 -ℤ pos 2 *ℤ f) +ℤ (pos 2 *ℤ (a1 +ℤ b1) -ℤ a0))
last-place a0 a1 a2 b0 b1 b2 f = omega (arith, ints)

module _ (φ : ℕ → ℤ) (cw ce uw ue : ℤ) where
  -- a term of X without its number of E: the products of the two winds and a value
  term-is : (w s t : ℕ) (v : ℤ) → pos w *ℤ (pos s *ℤ cw +ℤ pos t *ℤ ce) *ℤ v ≡ pos w *ℤ (pos s *ℤ (cw *ℤ v) +ℤ pos t *ℤ (ce *ℤ v))
  term-is w s t v = product_assoc (pos w) (pos s *ℤ cw +ℤ pos t *ℤ ce) v
      ∙ ap (λ x. pos w *ℤ x) (sum-product (pos s *ℤ cw) (pos t *ℤ ce) v ∙ ap₂ (λ x y. x +ℤ y) (product_assoc (pos s) cw v) (product_assoc (pos t) ce v))

  middle-is : cw *ℤ φ 1 +ℤ ce *ℤ φ 1 ≡ (cw +ℤ ce) *ℤ φ 1
  middle-is = sym (sum-product cw ce (φ 1))

  line-is : (a : ℕ) → a < 3 → advection quadratic φ cw ce uw ue a ≡ pos (2 * quadratic.line_weight a) *ℤ at (line_tendency φ cw ce (cw *ℤ uw) (ce *ℤ ue)) a
  unfolding advection place_wind quadratic sum_ℤ line_tendency place_sums
  line-is zero h =
      (λ i. pos 0 +ℤ term-is 1 2 0 (φ 0) i *ℤ negsuc 2 +ℤ term-is 4 1 1 (φ 1) i *ℤ negsuc 0 +ℤ term-is 1 0 2 (φ 2) i *ℤ pos 1 -ℤ pos 0 +ℤ product_assoc (pos 12) cw uw i)
      ∙ first-place (cw *ℤ φ 0) (cw *ℤ φ 1) (cw *ℤ φ 2) (ce *ℤ φ 0) (ce *ℤ φ 1) (ce *ℤ φ 2) (cw *ℤ uw)
      ∙ (λ i. pos 2 *ℤ (pos 3 *ℤ (pos 2 *ℤ (cw *ℤ uw) -ℤ cw *ℤ φ 0) +ℤ (ce *ℤ φ 2 -ℤ pos 2 *ℤ middle-is i)))
  line-is (suc zero) h =
      (λ i. pos 0 +ℤ term-is 1 2 0 (φ 0) i *ℤ pos 4 +ℤ term-is 4 1 1 (φ 1) i *ℤ pos 0 +ℤ term-is 1 0 2 (φ 2) i *ℤ negsuc 3 -ℤ pos 0 +ℤ pos 0)
      ∙ middle-place (cw *ℤ φ 0) (cw *ℤ φ 1) (cw *ℤ φ 2) (ce *ℤ φ 0) (ce *ℤ φ 1) (ce *ℤ φ 2)
  line-is (suc (suc zero)) h =
      (λ i. pos 0 +ℤ term-is 1 2 0 (φ 0) i *ℤ negsuc 0 +ℤ term-is 4 1 1 (φ 1) i *ℤ pos 1 +ℤ term-is 1 0 2 (φ 2) i *ℤ pos 3 -ℤ product_assoc (pos 12) ce ue i +ℤ pos 0)
      ∙ last-place (cw *ℤ φ 0) (cw *ℤ φ 1) (cw *ℤ φ 2) (ce *ℤ φ 0) (ce *ℤ φ 1) (ce *ℤ φ 2) (ce *ℤ ue)
      ∙ (λ i. pos 2 *ℤ (pos 3 *ℤ (ce *ℤ φ 2 -ℤ pos 2 *ℤ (ce *ℤ ue)) +ℤ (pos 2 *ℤ middle-is i -ℤ cw *ℤ φ 0)))
  line-is (suc (suc (suc a))) h = let f : ⊥ = omega arith in absurd f

-- ---- the tendency at a node, from its two lines
-- a factor of both sides
both-shares : (ωa ωb : ℕ) (x y : ℤ) → pos ωb *ℤ (pos (2 * ωa) *ℤ x) +ℤ pos ωa *ℤ (pos (2 * ωb) *ℤ y) ≡ pos (2 * (ωa * ωb)) *ℤ (x +ℤ y)
both-shares ωa ωb x y =
    let ex : ωb * (2 * ωa) ≡ 2 * (ωa * ωb) = omega (arith, mul_comm ωa ωb) in
    let ey : ωa * (2 * ωb) ≡ 2 * (ωa * ωb) = omega arith in
    ap₂ (λ p q. p +ℤ q) (sym (product_assoc (pos ωb) (pos (2 * ωa)) x)) (sym (product_assoc (pos ωa) (pos (2 * ωb)) y))
    ∙ (λ i. pos (ex i) *ℤ x +ℤ pos (ey i) *ℤ y) ∙ sym (product-sum (pos (2 * (ωa * ωb))) x y)

-- X (or Y) at place a of line b, as the lines that go one way have it: φ, uw and ue are what the rules read there
place-is : (v pw pe : ℕ → ℤ) (cw ce : ℤ) (step stride b a : ℕ) (φ : ℕ → ℤ) (uw ue : ℤ) → a < 3 → b < 3
    → ((q : ℕ) → v (step * b + stride * q) ≡ φ q) → pw b ≡ cw *ℤ uw → pe b ≡ ce *ℤ ue
    → pos (2 * quadratic.line_weight a) *ℤ at (get_or (table 3 (way_line v pw pe cw ce step stride)) b []) a ≡ advection quadratic φ cw ce uw ue a
place-is v pw pe cw ce step stride b a φ uw ue ha hb values first last =
    ap (λ l. pos (2 * quadratic.line_weight a) *ℤ at l a) (get_d-table 3 (way_line v pw pe cw ce step stride) b [] hb)
    ∙ (λ i. pos (2 * quadratic.line_weight a) *ℤ at (line_tendency (λ q. values q i) cw ce (first i) (last i)) a)
    ∙ sym (line-is φ cw ce uw ue a ha)

-- where each face's products are those of its wind and its upwind values, the tendency made of them is the rules'
pub element_tendency-is : (v c u pw pe ps pn : ℕ → ℤ) → ((b : ℕ) → b < 3 → pw b ≡ c 0 *ℤ u b) → ((b : ℕ) → b < 3 → pe b ≡ c 1 *ℤ u (3 + b))
    → ((a : ℕ) → a < 3 → ps a ≡ c 2 *ℤ u (6 + a)) → ((a : ℕ) → a < 3 → pn a ≡ c 3 *ℤ u (9 + a))
    → (k : ℕ) → k < 9 → element_tendency v pw pe ps pn (c 0) (c 1) (c 2) (c 3) k ≡ local_tendency v c u k
unfolding element_tendency local_tendency quadratic
element_tendency-is v c u pw pe ps pn hw he hs hn k h =
    let a = k % 3 in
    let b = k / 3 in
    let ωa = quadratic.line_weight a in
    let ωb = quadratic.line_weight b in
    let ha : a < 3 = omega arith in
    let hb : b < 3 = omega arith in
    let above : 0 < 2 * (ωa * ωb) = omega arith in
    let d : 2 * (ωa * ωb) * 4096 ≡ 8192 * (ωa * ωb) = omega arith in
    let tx = at (get_or (table 3 (way_line v pw pe (c 0) (c 1) 3 1)) b []) a in
    let ty = at (get_or (table 3 (way_line v ps pn (c 2) (c 3) 1 3)) a []) b in
    let x = place-is v pw pe (c 0) (c 1) 3 1 b a (λ q. v (node quadratic q b)) (u b) (u (3 + b)) ha hb (λ q. ap v (omega arith)) (hw b hb) (he b hb) in
    let y = place-is v ps pn (c 2) (c 3) 1 3 a b (λ q. v (node quadratic a q)) (u (6 + a)) (u (9 + a)) hb ha (λ q. ap v (omega arith)) (hs a ha) (hn a ha) in
    sym (floor-common (2 * (ωa * ωb)) 4096 (tx +ℤ ty) above)
    ∙ (λ i. floor_div (sym (both-shares ωa ωb tx ty) i) (d i))
    ∙ (λ i. floor_div (pos ωb *ℤ x i +ℤ pos ωa *ℤ y i) (8192 * (ωa * ωb)))
