-- The passes' stages, divisors and factors, by cases; what a turn is lent of the sums and of the part; how large tendencies
-- and sums are.
use mathlib.Core.Path.{◌≡◌, refl, sym, ap, subst, ◌∙◌}
use mathlib.Core.List.{List, [], ◌∷◌}
use Prim.Native.Nat.{ℕ, zero, suc, ◌+◌, ◌*◌, ◌/◌, ◌≤◌, ◌<◌}
use native.Mathlib.Nat.{div-one}
use native.Mathlib.Omega.{arith}
use lib.IntN.{ℤ, pos, negsuc, ◌+ℤ◌, ◌*ℤ◌}
use lib.ListN.{length, get_or, take, drop, length-drop}
use lib.Seq.{length-take-le, get_or-drop}
use Rattle.std.specs.Simd.{first_chunks}
use Rattle.std.proofs.lemmas.List.{get_or-take}
use Rattle.whole.proofs.ListParts.{chunk-at}
use Rattle.whole.specs.Table.{table, blocks, at}
use Rattle.whole.proofs.BoundLaws.{within-le, within-pos, within-add, within-mul}
use Rattle.whole.proofs.TableLaws.{table-cong, blocks-cong, table-take, table-all}
use Rattle.rules.specs.declared.Shape.{Shape}
use Rattle.rules.specs.Stages.{stage0, tendency}
use Rattle.rules.specs.Calls.{wind_at}
use Rattle.rules.proofs.StageBounds.{quadratic-bounded, tendency-within}
use Rattle.field_layout.proofs.PlaceLaws.{elements-are}
use Rattle.step_upwind.specs.Upwind.{stage_length, listed, as_stage, WindsInRange}
use Rattle.step_upwind.proofs.ListedLaws.{listed-within}
use Rattle.rules.specs.Field.{quadratic, cell, element_length, elements, elements_length, Admitted}
use Rattle.rules.specs.Sizes.{tendency_size, stage_size, sum_size, earlier_sum_size}
use mir.Syntax.{w64}
use mir.Val.{to_z, of_z}
use Rattle.whole.proofs.Sizes.{exacts, exact}
use Rattle.whole.proofs.OverwriteLaws.{part_at}
use Rattle.whole.specs.Bound.{Within, Are, AllWithin, floor_div}
use Rattle.step_stages.specs.declared.Pass.TheVariants.{First, Second, Third}
use Rattle.step_stages.specs.Passes.{from_stage, factor, new_sums, row_sum}

-- ---- the divisors
pub floor-one : (z : ℤ) → floor_div z 1 ≡ z
floor-one (pos a) = ap pos (div-one a)
floor-one (negsuc a) = ap negsuc (div-one a)

-- ---- the passes
-- the passes one after the other
pub pass-at : (i : ℕ) → i < 3 → from_stage (get_or (First ∷ Second ∷ Third ∷ []) i First) ≡ i
pass-at zero h = refl
pass-at (suc zero) h = refl
pass-at (suc (suc zero)) h = refl
pass-at (suc (suc (suc i))) h = let f : ⊥ = omega arith in absurd f

pub factor-small : (m : ℕ) → m < 3 → Within 4 (pos (factor m))
factor-small zero h = record { within = omega arith }
factor-small (suc zero) h = record { within = omega arith }
factor-small (suc (suc zero)) h = record { within = omega arith }
factor-small (suc (suc (suc m))) h = let f : ⊥ = omega arith in absurd f

-- ---- what a turn writes, as the machine computes it
abbrev pub B : ℤ → ℤ
B z = to_z w64 (of_z w64 z)

pub add-exact : {s m t : ℤ} → Within earlier_sum_size s → Within 4 m → Within tendency_size t → B (B s +ℤ B (B m *ℤ B t)) ≡ s +ℤ m *ℤ t
add-exact a b c = exact (search exacts depth 20) tt

pub value-exact : {v r d : ℤ} → Within 4294967295 v → Are (sum_size + 1) r d → B (B v +ℤ B r) ≡ v +ℤ d
value-exact a b = exact (search exacts depth 20) tt

-- ---- what a turn is lent from place j * w of a list of which nothing from there on is written yet
module _ {w : ℕ} (p old : List ℤ) (j n : ℕ) (rest : drop (j * w) p ≡ drop (j * w) old) (all : n ≡ w) where
  abbrev lent : List ℤ
  lent = take n (drop (j * w) p)

  pub lent-at : (k : ℕ) → k < w → at lent k ≡ at old (j * w + k)
  lent-at k l = ap (λ x. at (take n x) k) rest ∙ part_at w (j * w) n old k (pos 0) all l

  pub lent-within : {b : ℕ} → j * w + w ≤ length old → AllWithin b old → AllWithin b lent
  lent-within {b} room h = subst (AllWithin b) (table-take w (drop (j * w) old) (pos 0) (omega (arith, length-drop (j * w) old)) ∙ (λ i. take (sym all i) (sym rest i)))
      (record { all = table-all (Within b) w (at (drop (j * w) old)) (pos 0) (within-le (within-pos 0) (omega arith)) (λ i _. subst (Within b) (sym (get_or-drop (j * w) old i (pos 0))) (h.all (j * w + i))) })

-- the sums of row j, lent from those of all elements
pub row-sums : (g : Shape) (c : ℕ → ℤ) (m : ℕ) (t : ℤ) (p old from : List ℤ) (j n : ℕ) → t ≡ pos (factor m) → drop (j * (g.nx * 9)) p ≡ drop (j * (g.nx * 9)) old → n ≡ g.nx * 9
    → blocks g.nx (λ i. table 9 (row_sum g c t (take n (drop (j * (g.nx * 9)) p)) from j i)) ≡ blocks g.nx (λ i. table 9 (new_sums g c m old from (j * g.nx + i)))
row-sums g c m t p old from j n et rest all = blocks-cong g.nx _ _ (λ i li. table-cong 9 _ _ (λ k lk. λ x. value i k li lk x +ℤ et x *ℤ tendency quadratic g c (as_stage from) (j * g.nx + i) k))
  where
    value : (i k : ℕ) → i < g.nx → k < 9 → as_stage (take n (drop (j * (g.nx * 9)) p)) i k ≡ as_stage old (j * g.nx + i) k
    value i k li lk = lent-at p old j n rest all (i * 9 + k) (omega arith) ∙ ap (at old) (omega arith)

-- ---- the elements of a part, the first n of what the library lends by chunks of ten, and the stored values of element e
module _ (g : Shape) (p : List ℕ) (cs : List (List ℕ)) (n : ℕ) (long : length cs ≡ length p / 10) (en : n ≡ elements g) (room : elements_length quadratic g ≤ length p) where
  all : n * 10 ≤ length p
  all = omega (arith, room, elements-are g, en)

  pub all-lent : length (take n cs) ≡ n
  all-lent = length-take-le n cs (omega (arith, all))

  pub stored-lent : (e : ℕ) → e < n → cs ≡ first_chunks 10 (length p / 10) p → (k : ℕ) → k < 9 → pos (get_or (get_or (take n cs) e []) k 0) ≡ stage0 quadratic p e k
  unfolding stage0 cell element_length quadratic
  stored-lent e l same k lk =
      let lent : get_or (take n cs) e [] ≡ take 10 (drop (e * 10) p) = get_or-take n cs e [] l ∙ ap (λ x. get_or x e []) same ∙ chunk-at 10 (length p / 10) e p (omega (arith, all)) in
      ap (λ x. pos (get_or x k 0)) lent ∙ ap pos (part_at 10 (e * 10) 10 p k 0 refl (omega arith))

-- ---- sizes: an element's tendencies, and the sums with them
module _ (g : Shape) (wind from : List ℤ) (h : Admitted g) (c : WindsInRange g wind) (small : AllWithin stage_size from) where
  tendency-small : (e k : ℕ) → e < elements g → k < 9 → Within tendency_size (tendency quadratic g (wind_at wind) (as_stage from) e k)
  unfolding quadratic
  tendency-small e k le lk = tendency-within quadratic quadratic-bounded g h.nx-above h.ny-above (wind_at wind) c.small stage_size (as_stage from) (λ e k. small.all (e * 9 + k)) e k le lk

  pub tendencies-small : (e : ℕ) → e < elements g → AllWithin tendency_size (table 9 (tendency quadratic g (wind_at wind) (as_stage from) e))
  tendencies-small e le = record { all = table-all (Within tendency_size) 9 (tendency quadratic g (wind_at wind) (as_stage from) e) (pos 0) (within-le (within-pos 0) (omega arith)) (λ k lk. tendency-small e k le lk) }

  pub new_sums-small : (m : ℕ) (sums : List ℤ) → m < 3 → AllWithin earlier_sum_size sums → AllWithin sum_size (listed (stage_length g) (new_sums g (wind_at wind) m sums from))
  new_sums-small m sums lm s = listed-within (elements g) (new_sums g (wind_at wind) m sums from) each
    where
      each : (e k : ℕ) → e < elements g → k < 9 → Within sum_size (new_sums g (wind_at wind) m sums from e k)
      each e k le lk = within-le (within-add (s.all (e * 9 + k)) (within-mul (factor-small m lm) (tendency-small e k le lk))) (omega arith)
