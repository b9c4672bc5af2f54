-- The sums of the faces are document 01's, and the fluxes that are made of them its G: after m passes the weighed products of the stages before, by
-- cases on the pass; a wind times a sum is the sum of its products.
use mathlib.Core.Path.{◌≡◌, sym, ap, ap₂, ◌∙◌}
use mathlib.Core.List.{List}
use Prim.Native.Nat.{ℕ, zero, suc, ◌*◌, ◌≤◌, ◌<◌}
use native.Mathlib.Omega.{arith}
use lib.IntN.{ℤ, pos, ◌+ℤ◌, ◌*ℤ◌, *ℤ_comm, *ℤ-zero}
use lib.ListN.{get_or, replicate}
use lib.Signed.{non_neg}
use Rattle.whole.proofs.Cases.{cond_ind}
use Rattle.std.proofs.lemmas.Int.{ints}
use Rattle.whole.specs.Bound.{Within, AllWithin}
use Rattle.whole.specs.Sum.{sum_ℤ}
use Rattle.whole.specs.Table.{table, at}
use Rattle.whole.proofs.BoundLaws.{within-le, within-add, within-mul, within-pos}
use Rattle.whole.proofs.OverwriteLaws.{table-const}
use Rattle.whole.proofs.ProductLaws.{product_assoc, product-sum}
use Rattle.whole.proofs.SumLaws.{sum_ℤ-cong}
use Rattle.whole.proofs.TableLaws.{get_d-table, table-cong, table-all}
use Rattle.rules.specs.declared.Shape.{Shape}
use Rattle.rules.specs.Field.{quadratic, elements, faces, limit, Admitted}
use Rattle.rules.specs.Stages.{upwind, face_sum, flux_of, flux, Stages, stages}
use Rattle.step_upwind.specs.Upwind.{as_stage, face_product}
use Rattle.step_upwind.proofs.ListedLaws.{listed-at}
use Rattle.step_upwind.proofs.TendencyLaws.{upwind-cong}
use Rattle.step_stages.specs.Passes.{factor}
use Rattle.step_stages.proofs.StagesLaws.{stage_of, stage_list, bound_of, stage-within}
use Rattle.step_fluxes.specs.Amount.{stage_amount, rounded, amount_size}
use Rattle.step_fluxes.proofs.Laws.{terms-within}

-- ---- a wind times a face's sum, over any number of nodes
swapped : (a b x : ℤ) → a *ℤ (b *ℤ x) ≡ b *ℤ (a *ℤ x)
swapped a b x = sym (product_assoc a b x) ∙ ap (λ y. y *ℤ x) (*ℤ_comm a b) ∙ product_assoc b a x

-- one node
node-sum : (w x y z : ℤ) → w *ℤ x +ℤ w *ℤ y +ℤ pos 4 *ℤ (w *ℤ z) ≡ w *ℤ (x +ℤ pos 4 *ℤ z +ℤ y)
node-sum w x y z = omega (arith, ints, product-sum w (x +ℤ pos 4 *ℤ z) y, product-sum w x (pos 4 *ℤ z), swapped w (pos 4) z)

products-sum : (c : ℤ) (w : ℕ → ℕ) (p0 p1 p2 : ℕ → ℤ) (n : ℕ)
    → sum_ℤ n (λ r. pos (w r) *ℤ (c *ℤ p0 r)) +ℤ sum_ℤ n (λ r. pos (w r) *ℤ (c *ℤ p1 r)) +ℤ pos 4 *ℤ sum_ℤ n (λ r. pos (w r) *ℤ (c *ℤ p2 r))
    ≡ c *ℤ sum_ℤ n (λ r. pos (w r) *ℤ (p0 r +ℤ pos 4 *ℤ p2 r +ℤ p1 r))
unfolding sum_ℤ
products-sum c w p0 p1 p2 zero = sym (*ℤ-zero c)
products-sum c w p0 p1 p2 (suc n) =
    let v = p0 n +ℤ pos 4 *ℤ p2 n +ℤ p1 n in
    let e : c *ℤ v ≡ c *ℤ p0 n +ℤ pos 4 *ℤ (c *ℤ p2 n) +ℤ c *ℤ p1 n = omega (arith, ints, node-sum c (p0 n) (p1 n) (p2 n)) in
    let t = swapped c (pos (w n)) v ∙ ap (λ x. pos (w n) *ℤ x) e ∙ sym (node-sum (pos (w n)) (c *ℤ p0 n) (c *ℤ p1 n) (c *ℤ p2 n)) in
    omega (arith, ints, products-sum c w p0 p1 p2 n, product-sum c (sum_ℤ n (λ r. pos (w r) *ℤ (p0 r +ℤ pos 4 *ℤ p2 r +ℤ p1 r))) (pos (w n) *ℤ v), t)

-- ---- the sums by number
module _ (g : Shape) (c : ℕ → ℤ) (p : List ℕ) where
  abbrev s : Stages
  s = stages quadratic g c p

  -- the sum of face f before stage m is added
  abbrev pub amount_of : ℕ → ℕ → ℤ
  amount_of zero f = pos 0
  amount_of (suc m) f = amount_of m f +ℤ pos (factor m) *ℤ stage_amount g c (stage_of s m) f

  abbrev pub amounts_list : ℕ → List ℤ
  amounts_list m = table (faces g) (amount_of m)

  pub first-amounts : replicate (faces g) (pos 0) ≡ amounts_list 0
  first-amounts = sym (table-const (faces g) (pos 0))

  pub next-amounts : Admitted g → (m : ℕ) → table (faces g) (λ f. at (amounts_list m) f +ℤ pos (factor m) *ℤ stage_amount g c (as_stage (stage_list g c p m)) f) ≡ amounts_list (suc m)
  next-amounts h m = table-cong (faces g) _ _ (λ f l. ap₂ (λ x y. x +ℤ pos (factor m) *ℤ y) (get_d-table (faces g) (amount_of m) f (pos 0) l)
      (sum_ℤ-cong 3 _ _ (λ r lr. ap (λ u. pos (quadratic.line_weight r) *ℤ (c f *ℤ u)) (upwind-cong g h c (as_stage (stage_list g c p m)) (stage_of s m) (listed-at (elements g) (stage_of s m)) f r l lr))))

  -- all three make document 01's C · Σ ω·(p0 + 4·p2 + p1)
  all-amounts : (f : ℕ) → amount_of 3 f ≡ c f *ℤ face_sum quadratic (upwind quadratic g c s.φ0 f) (upwind quadratic g c s.φ1 f) (upwind quadratic g c s.φ2 f)
  unfolding face_sum quadratic
  all-amounts f =
      let a = λ (φ : ℕ → ℕ → ℤ). stage_amount g c φ f in
      once (a s.φ0) (a s.φ1) (pos 4 *ℤ a s.φ2) ∙ products-sum (c f) quadratic.line_weight (upwind quadratic g c s.φ0 f) (upwind quadratic g c s.φ1 f) (upwind quadratic g c s.φ2 f) 3
    where
      once : (x y z : ℤ) → pos 0 +ℤ pos 1 *ℤ x +ℤ pos 1 *ℤ y +ℤ z ≡ x +ℤ y +ℤ z
      once x y z = omega (arith, ints)

  pub fluxes-are : table (faces g) (λ f. rounded (at (amounts_list 3) f)) ≡ table (faces g) (flux quadratic g c s)
  unfolding rounded flux flux_of
  fluxes-are = table-cong (faces g) _ _ (λ f l. ap rounded (get_d-table (faces g) (amount_of 3) f (pos 0) l ∙ all-amounts f))

  -- ---- sizes: every stored value is at most the limit, every wind in its range
  module _ (admits : Admitted g) (wind-range : (f : ℕ) → f < faces g → Within 1024 (c f)) (small : (i : ℕ) → get_or p i 0 ≤ limit) where
    -- what stage m adds
    stage-amount-within : (m f : ℕ) → m < 3 → f < faces g → Within (6 * (1024 * bound_of m)) (stage_amount g c (stage_of s m) f)
    unfolding upwind
    stage-amount-within m f h l = terms-within (face_product g c (stage_of s m) f)
        (λ r. within-mul (wind-range f l) (cond_ind (non_neg (c f)) _ _ (Within (bound_of m)) (λ _. stage-within g c p admits wind-range small m _ _ h) (λ _. stage-within g c p admits wind-range small m _ _ h))) 3 (omega arith)

    first : (f : ℕ) → f < faces g → Within (6 * (1024 * limit)) (amount_of 1 f)
    first f l = within-le (within-add (within-pos 0) (within-mul (within-pos 1) (stage-amount-within 0 f (omega arith) l))) (omega arith)

    second : (f : ℕ) → f < faces g → Within (6 * (1024 * (9 * limit))) (amount_of 2 f)
    second f l = within-le (within-add (first f l) (within-mul (within-pos 1) (stage-amount-within 1 f (omega arith) l))) (omega arith)

    third : (f : ℕ) → f < faces g → Within amount_size (amount_of 3 f)
    third f l = within-le (within-add (second f l) (within-mul (within-pos 4) (stage-amount-within 2 f (omega arith) l))) (omega arith)

    amount-within : (m f : ℕ) → m ≤ 3 → f < faces g → Within amount_size (amount_of m f)
    amount-within zero f h l = within-le (within-pos 0) (omega arith)
    amount-within (suc zero) f h l = within-le (first f l) (omega arith)
    amount-within (suc (suc zero)) f h l = within-le (second f l) (omega arith)
    amount-within (suc (suc (suc zero))) f h l = third f l
    amount-within (suc (suc (suc (suc m)))) f h l = let f : ⊥ = omega arith in absurd f

    pub amounts-small : (m : ℕ) → m ≤ 3 → AllWithin amount_size (amounts_list m)
    amounts-small m h = record { all = table-all (Within amount_size) (faces g) (amount_of m) (pos 0) (within-le (within-pos 0) (omega arith)) (λ f l. amount-within m f h l) }
