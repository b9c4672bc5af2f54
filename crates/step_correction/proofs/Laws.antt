-- The parts of a flux, its cut by one division toward zero, and an element's mass as it is lent: by cases on signs and on the test.
use mathlib.Core.Path.{◌≡◌, refl, sym, ap, ap₂, ◌∙◌}
use mathlib.Core.Bool.{true, false, cond}
use Prim.Native.Nat.{ℕ, zero, suc, ◌+◌, ◌*◌, ◌/◌, ◌^◌, ◌≤◌, ◌<◌}
use native.Mathlib.Nat.{mul-zero, mul_comm, mul-le-mul_left, zero-div, le_refl, le_trans, le_of_eq, le_of_lt, div-le_of_le-mul}
use native.Mathlib.Omega.{arith}
use borrow.Author.Tests.{le-leb, lt-leb, leb-true, leb-false}
use lib.Dec.{T, leb, ltb, nleb→lt}
use lib.IntN.{ℤ, pos, negsuc, neg_ℤ, nat_abs, ◌+ℤ◌, ◌*ℤ◌}
use lib.Signed.{le_z, quot_z, non_neg, ◌≤ℤ◌}
use Rattle.whole.specs.Bound.{Within, Are, AllWithin}
use Rattle.whole.specs.Table.{at}
use mir.Syntax.{w64}
use mir.Val.{to_z, of_z, hbits}
use Rattle.whole.proofs.Sizes.{exacts, bounded, back_is}
use Rattle.whole.specs.Parts.{positive}
use Rattle.whole.proofs.WholeLaws.{above-positive}
use Rattle.whole.proofs.Cases.{cond_ind}
use mathlib.Core.List.{List}
use lib.ListN.{get_or, take, drop}
use Rattle.whole.proofs.OverwriteLaws.{part_at}
use Rattle.whole.proofs.SumLaws.{sum-cong}
use Rattle.rules.proofs.CorrectionLaws.{abs-with_sign}
use Rattle.rules.specs.declared.Shape.{Shape}
use Rattle.rules.specs.Grid.{behind, ahead}
use Rattle.rules.proofs.GridLaws.{behind-lt, ahead-lt}
use Rattle.step_grid.specs.Place.{side_faces}
use Rattle.step_grid.specs.declared.Face.{Face}
use Rattle.rules.specs.Field.{quadratic, elements, element_length, cell, remainder, weighted, mass}
use Rattle.rules.specs.Limiter.{rescaled}
use Rattle.rules.specs.Correction.{with_sign, cut}
use Rattle.rules.specs.Sizes.{flux_size, outflow_size}

-- ---- the cut
sign_kept : (z : ℤ) → with_sign z (nat_abs z) ≡ z
unfolding with_sign
sign_kept (pos a) = refl
sign_kept (negsuc a) = refl

pub cut_keeps : (z : ℤ) (o m : ℕ) → o ≤ m → z ≡ cut z o m
unfolding cut rescaled
cut_keeps z o m h = rw (le-leb o m h) (sym (sign_kept z))

-- toward zero, a quotient keeps the sign and floors the size
pub quotient : (z : ℤ) (o : ℕ) → quot_z z (pos o) ≡ with_sign z (nat_abs z / o)
unfolding with_sign
quotient (pos a) o = refl
quotient (negsuc a) o = refl

-- of a product by a natural, too
pub product-quotient : (z : ℤ) (o m : ℕ) → quot_z (z *ℤ pos m) (pos o) ≡ with_sign z (nat_abs z * m / o)
unfolding with_sign
product-quotient (pos a) o m = refl
product-quotient (negsuc a) o zero = rw (mul-zero (suc a)) (ap pos (zero-div o) ∙ sym (ap (λ n. neg_ℤ (pos n)) (zero-div o)))
product-quotient (negsuc a) o (suc m) = negated (suc a * suc m) (omega (arith, native.Mathlib.Nat.suc-mul a (suc m)))
  where
    negated : (n : ℕ) → 0 < n → quot_z (neg_ℤ (pos n)) (pos o) ≡ neg_ℤ (pos (n / o))
    negated zero h = let f : ⊥ = omega arith in absurd f
    negated (suc n) h = quotient (negsuc n) o

pub cut-divides : (z : ℤ) (o m : ℕ) → m < o → quot_z (z *ℤ pos m) (pos o) ≡ cut z o m
unfolding cut rescaled
cut-divides z o m h = rw (lt-leb o m h) (product-quotient z o m)

-- a cut flux is not larger than the flux
rescaled-le : (o m v : ℕ) → rescaled o m v ≤ v
unfolding rescaled
rescaled-le o m v = cond_ind (leb o m) v (v * m / o) (λ x. x ≤ v) (λ _. le_refl v)
    (λ t. let h : m < o = nleb→lt o m t in div-le_of_le-mul o (omega (arith, mul-le-mul_left v (le_of_lt h), mul_comm v o)))

pub cut-within : {n : ℕ} (z : ℤ) (o m : ℕ) → Within n z → Within n (cut z o m)
unfolding cut
cut-within z o m h = record { within = le_trans (le_of_eq (abs-with_sign z (rescaled o m (nat_abs z)))) (le_trans (rescaled-le o m (nat_abs z)) h.within) }

-- ---- the test, on numbers that are not negative
module _ (o m : ℤ) (ho : pos 0 ≤ℤ o) (hm : pos 0 ≤ℤ m) where
  order : le_z o m ≡ le_z (pos (positive o)) (pos (positive m))
  order = ap₂ le_z (above-positive o ho) (above-positive m hm)

  pub test-yes : le_z o m ≡ true → positive o ≤ positive m
  test-yes e = leb-true (positive o) (positive m) (sym order ∙ e)

  pub test-no : le_z o m ≡ false → positive m < positive o
  test-no e = leb-false (positive o) (positive m) (sym order ∙ e)

-- a number with a positive part is at least 1
pub at_least_one : (z : ℤ) → 0 < positive z → pos 1 ≤ℤ z
unfolding positive
at_least_one (pos n) h = record { le = lib.Dec.le→leb 1 n h }
at_least_one (negsuc n) h = let f : ⊥ = omega arith in absurd f

-- ---- one element of a part, as it is lent
pub mass-part : (p : List ℕ) (e k : ℕ) → k ≡ 10 → mass quadratic (take k (drop (e * 10) p)) 0 ≡ mass quadratic p e
unfolding mass weighted remainder cell element_length quadratic
mass-part p e k ten = ap₂ ◌+◌ (sum-cong 9 _ _ (λ v h. ap (λ x. quadratic.weight v * x) (number v (omega arith)))) (number 9 (omega arith))
  where
    number : (v : ℕ) → v < 10 → get_or (take k (drop (e * 10) p)) (0 * 10 + v) 0 ≡ get_or p (e * 10 + v) 0
    number v h = let z : 0 * 10 + v ≡ v = omega arith in ap (λ n. get_or (take k (drop (e * 10) p)) n 0) z ∙ part_at 10 (e * 10) k p v 0 ten h

-- ---- the four sides of an element
-- of a list with a number for each face, the number at side m of element e, as it is read
pub side-read : {n : ℕ} (x : List ℤ) (g : Shape) (e : ℕ) {s : List ℕ} → AllWithin n x → T (ltb n (2 ^ hbits w64)) → s ≡ side_faces g e → (m : ℕ) → to_z w64 (of_z w64 (at x (get_or s m 0))) ≡ at x (get_or (side_faces g e) m 0)
side-read x g e {s} h t es m = back_is w64 (at x (get_or s m 0)) (h.all (get_or s m 0)) t ∙ ap (λ (l : List ℕ). at x (get_or l m 0)) es

-- the sum of four results, as the machine adds them
pub added : (r s t u a b c d : ℤ) → Are flux_size r a → Are flux_size s b → Are flux_size t c → Are flux_size u d
    → Are outflow_size (to_z w64 (of_z w64 (to_z w64 (of_z w64 (to_z w64 (of_z w64 r) +ℤ to_z w64 (of_z w64 s))) +ℤ to_z w64 (of_z w64 (to_z w64 (of_z w64 t) +ℤ to_z w64 (of_z w64 u)))))) (a +ℤ b +ℤ (c +ℤ d))
added r s t u a b c d p q v w = bounded (search exacts depth 20) tt tt refl

-- ---- the donor
pub donor-in : (x : Face) (z : ℤ) → cond (non_neg z) (behind x.grid.shape x.index) (ahead x.grid.shape x.index) < elements x.grid.shape
donor-in x z =
    let g = x.grid.shape in
    let h = x.grid.admitted in
    cond_ind (non_neg z) (behind g x.index) (ahead g x.index) (λ d. d < elements g) (λ _. behind-lt g h.nx-above h.ny-above x.index x.inside) (λ _. ahead-lt g h.nx-above h.ny-above x.index x.inside)
