-- The lists of the stages are document 01's: after m passes stage m and the sums of the tendencies before it, by cases on the pass; stage 3 is ψ.
-- Their sizes are those of `StageBounds`.
use mathlib.Core.Path.{◌≡◌, refl, sym, ap, ap₂, subst, ◌∙◌}
use mathlib.Core.List.{List}
use Prim.Native.Nat.{ℕ, zero, suc, ◌*◌, ◌≤◌, ◌<◌}
use native.Mathlib.Nat.{one-mul}
use native.Mathlib.Omega.{arith}
use lib.IntN.{ℤ, pos, negsuc, neg_ℤ, ◌+ℤ◌, ◌*ℤ◌, +ℤ_idl}
use lib.ListN.{get_or, replicate}
use Rattle.whole.specs.Bound.{Within, AllWithin, floor_div}
use Rattle.whole.proofs.BoundLaws.{within-le, within-add, within-pos}
use Rattle.whole.proofs.OverwriteLaws.{table-const}
use Rattle.rules.specs.declared.Shape.{Shape}
use Rattle.rules.specs.Field.{quadratic, elements, faces, Admitted, limit}
use Rattle.rules.specs.Stages.{tendency, tabulated, stage0, stage1, stage2, tentative, Stages, stages}
use Rattle.rules.proofs.StageBounds.{quadratic-bounded, φ0-within, t0-within, φ1-within, t1-within, φ2-within}
use Rattle.rules.specs.Sizes.{earlier_sum_size, stage_1_size, stage_size}
use Rattle.step_upwind.specs.Upwind.{stage_length, listed, as_stage}
use Rattle.step_upwind.proofs.ListedLaws.{listed-at, listed-cong, listed-within}
use Rattle.step_upwind.proofs.TendencyLaws.{tendency-cong}
use Rattle.step_stages.specs.Passes.{new_sum, new_value, new_sums}
use Rattle.step_stages.proofs.Laws.{floor-one}

-- ---- the stages, their tendencies and the sums of these, by number
abbrev pub stage_of : Stages → ℕ → ℕ → ℕ → ℤ
stage_of s zero = s.φ0
stage_of s (suc zero) = s.φ1
stage_of s (suc (suc zero)) = s.φ2
stage_of s (suc (suc (suc m))) = s.ψ

abbrev pub tendency_of : Stages → ℕ → ℕ → ℕ → ℤ
tendency_of s zero = s.t0
tendency_of s (suc zero) = s.t1
tendency_of s (suc (suc m)) = s.t2

abbrev pub sum_of : Stages → ℕ → ℕ → ℕ → ℤ
sum_of s zero e k = pos 0
sum_of s (suc m) e k = new_sum m (sum_of s m e k) (tendency_of s m e k)

-- how large the values of stage m are
abbrev pub bound_of : ℕ → ℕ
bound_of zero = limit
bound_of (suc zero) = stage_1_size
bound_of (suc (suc m)) = stage_size

bound-le : (m : ℕ) → bound_of m ≤ stage_size
bound-le zero = omega arith
bound-le (suc zero) = omega arith
bound-le (suc (suc m)) = omega arith

once : (z : ℤ) → pos 1 *ℤ z ≡ z
once (pos a) = ap pos (one-mul a)
once (negsuc a) = ap (λ n. neg_ℤ (pos n)) (one-mul (suc a))

module _ (g : Shape) (c : ℕ → ℤ) (p : List ℕ) where
  abbrev s : Stages
  s = stages quadratic g c p

  sum-1 : (e k : ℕ) → sum_of s 1 e k ≡ s.t0 e k
  sum-1 e k = +ℤ_idl _ ∙ once (s.t0 e k)

  sum-2 : (e k : ℕ) → sum_of s 2 e k ≡ s.t0 e k +ℤ s.t1 e k
  sum-2 e k = ap₂ ◌+ℤ◌ (sum-1 e k) (once (s.t1 e k))

  sum-3 : (e k : ℕ) → sum_of s 3 e k ≡ s.t0 e k +ℤ s.t1 e k +ℤ pos 4 *ℤ s.t2 e k
  sum-3 e k = ap (λ x. x +ℤ pos 4 *ℤ s.t2 e k) (sum-2 e k)

  -- document 01's φ1, φ2 and ψ
  next-is : (m e k : ℕ) → m < 3 → new_value m (s.φ0 e k) (sum_of s (suc m) e k) ≡ stage_of s (suc m) e k
  unfolding stages stage1 stage2 tentative
  next-is zero e k h = ap (λ x. s.φ0 e k +ℤ x) (floor-one (sum_of s 1 e k) ∙ sum-1 e k)
  next-is (suc zero) e k h = ap (λ x. s.φ0 e k +ℤ floor_div x 4) (sum-2 e k)
  next-is (suc (suc zero)) e k h = ap (λ x. s.φ0 e k +ℤ floor_div x 6) (sum-3 e k)
  next-is (suc (suc (suc m))) e k h = let f : ⊥ = omega arith in absurd f

  -- a tabulated tendency, on the grid
  tabulated-at : (f : ℕ → ℕ → ℤ) (e k : ℕ) → e < elements g → k < 9 → tabulated quadratic (elements g) f e k ≡ f e k
  unfolding tabulated quadratic
  tabulated-at f e k le lk = listed-at (elements g) f e k le lk

  tendency-is : (m e k : ℕ) → m < 3 → e < elements g → k < 9 → tendency_of s m e k ≡ tendency quadratic g c (stage_of s m) e k
  unfolding stages
  tendency-is zero e k h le lk = tabulated-at (tendency quadratic g c s.φ0) e k le lk
  tendency-is (suc zero) e k h le lk = tabulated-at (tendency quadratic g c s.φ1) e k le lk
  tendency-is (suc (suc zero)) e k h le lk = tabulated-at (tendency quadratic g c s.φ2) e k le lk
  tendency-is (suc (suc (suc m))) e k h le lk = let f : ⊥ = omega arith in absurd f

  -- ---- as lists
  abbrev pub stage_list : ℕ → List ℤ
  stage_list m = listed (stage_length g) (stage_of s m)

  abbrev pub sums_list : ℕ → List ℤ
  sums_list m = listed (stage_length g) (sum_of s m)

  pub first-stage : listed (stage_length g) (stage0 quadratic p) ≡ stage_list 0
  unfolding stages
  first-stage = refl

  pub first-sums : replicate (stage_length g) (pos 0) ≡ sums_list 0
  first-sums = sym (table-const (stage_length g) (pos 0))

  module _ (admits : Admitted g) (m : ℕ) (lm : m < 3) where
    sum-next : (e k : ℕ) → e < elements g → k < 9 → new_sums g c m (sums_list m) (stage_list m) e k ≡ sum_of s (suc m) e k
    sum-next e k le lk =
        ap₂ (new_sum m) (listed-at (elements g) (sum_of s m) e k le lk) (tendency-cong g admits c (as_stage (stage_list m)) (stage_of s m) (listed-at (elements g) (stage_of s m)) e k le lk
        ∙ sym (tendency-is m e k lm le lk))

    pub next-sums : listed (stage_length g) (new_sums g c m (sums_list m) (stage_list m)) ≡ sums_list (suc m)
    next-sums = listed-cong (elements g) _ _ sum-next

  -- the next values, from the stored ones and the sums
  pub next-stage : (m : ℕ) → m < 3 → listed (stage_length g) (λ e k. new_value m (stage0 quadratic p e k) (as_stage (sums_list (suc m)) e k)) ≡ stage_list (suc m)
  unfolding stages
  next-stage m lm = listed-cong (elements g) _ _ (λ e k le lk. ap (new_value m (s.φ0 e k)) (listed-at (elements g) (sum_of s (suc m)) e k le lk) ∙ next-is m e k lm)

  -- ---- sizes: every stored value is at most the limit, every wind in its range
  module _ (admits : Admitted g) (wind-range : (f : ℕ) → f < faces g → Within 1024 (c f)) (small : (i : ℕ) → get_or p i 0 ≤ limit) where
    pub stage-within : (m e k : ℕ) → m < 3 → Within (bound_of m) (stage_of s m e k)
    stage-within zero e k h = φ0-within quadratic quadratic-bounded g admits.nx-above admits.ny-above c wind-range p limit small e k
    stage-within (suc zero) e k h = φ1-within quadratic quadratic-bounded g admits.nx-above admits.ny-above c wind-range p limit small e k
    stage-within (suc (suc zero)) e k h = φ2-within quadratic quadratic-bounded g admits.nx-above admits.ny-above c wind-range p limit small e k
    stage-within (suc (suc (suc m))) e k h = let f : ⊥ = omega arith in absurd f

    t0-small : (e k : ℕ) → Within (7 * limit) (s.t0 e k)
    t0-small e k = t0-within quadratic quadratic-bounded g admits.nx-above admits.ny-above c wind-range p limit small e k

    t1-small : (e k : ℕ) → Within (56 * limit) (s.t1 e k)
    t1-small e k = t1-within quadratic quadratic-bounded g admits.nx-above admits.ny-above c wind-range p limit small e k

    sum-within : (m e k : ℕ) → m < 3 → Within earlier_sum_size (sum_of s m e k)
    sum-within zero e k h = within-le (within-pos 0) (omega arith)
    sum-within (suc zero) e k h = subst (Within earlier_sum_size) (sym (sum-1 e k)) (within-le (t0-small e k) (omega arith))
    sum-within (suc (suc zero)) e k h = subst (Within earlier_sum_size) (sym (sum-2 e k)) (within-le (within-add (t0-small e k) (t1-small e k)) (omega arith))
    sum-within (suc (suc (suc m))) e k h = let f : ⊥ = omega arith in absurd f

    pub stage-small : (m : ℕ) → m < 3 → AllWithin stage_size (stage_list m)
    stage-small m h = listed-within (elements g) (stage_of s m) (λ e k _ _. within-le (stage-within m e k h) (bound-le m))

    pub sums-small : (m : ℕ) → m < 3 → AllWithin earlier_sum_size (sums_list m)
    sums-small m h = listed-within (elements g) (sum_of s m) (λ e k _ _. sum-within m e k h)
