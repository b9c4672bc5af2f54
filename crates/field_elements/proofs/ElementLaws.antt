-- An element's numbers under their weights: the size of a weight, one number more, and its mass as one sum.
use mathlib.Core.Path.{◌≡◌, refl, sym, ap, ap₂, ◌∙◌}
use mathlib.Core.List.{List}
use Prim.Native.Nat.{ℕ, ◌+◌, ◌*◌, ◌^◌, ◌≤◌, ◌<◌}
use native.Mathlib.Nat.{zero-add, one-mul, mul-le-mul}
use native.Mathlib.Decide.{dec_lt}
use native.Mathlib.Omega.{arith}
use borrow.Author.Tests.{lt-ltb, le-ltb}
use lib.ListN.{length, get_or}
use Rattle.std.specs.List.{sum_by, enumerate_from}
use Rattle.whole.proofs.ChainSums.{sum_by-numbered}
use mir.Syntax.{w32, w64}
use mir.Val.{Fits}
use Rattle.whole.proofs.SumLaws.{sum-le-each, sum-cong, sum_more}
use Rattle.rules.specs.Field.{Kind, quadratic, element_length, cell, remainder, weighted, mass}
use Rattle.rules.proofs.QuadraticLaws.{weight-le}
use Rattle.field_layout.proofs.PlaceLaws.{ten}
use Rattle.field_elements.specs.Weighing.{number_weight, weighed}

-- ---- weights: a node's, and the remainder's
module _ (κ : Kind) (v : ℕ) where
  pub node-number : v < κ.nodes → number_weight κ v ≡ κ.weight v
  unfolding number_weight
  node-number h = rw (lt-ltb v κ.nodes h)

  pub last-number : κ.nodes ≤ v → number_weight κ v ≡ 1
  unfolding number_weight
  last-number h = rw (le-ltb v κ.nodes h)

-- a u32 and its weight
pub weighs-small : (v : ℕ) {w x : ℕ} → w ≡ number_weight quadratic v → Fits w32 x → w * x ≤ 16 * 2 ^ 32
unfolding quadratic
weighs-small v {w} {x} e f = mul-le-mul {n₂ = 16} {m₂ = 2 ^ 32} (rw e (go (dec_lt v 9))) (omega (arith, f.fits))
  where
    go : Dec (v < 9) → number_weight quadratic v ≤ 16
    go (yes h) = omega (arith, node-number quadratic v h, weight-le v h)
    go (no h) = omega (arith, last-number quadratic v (omega (arith, h)))

pub weighs-fit : (v : ℕ) {w x : ℕ} → w ≡ number_weight quadratic v → Fits w32 x → Fits w64 (w * x)
weighs-fit v e f = record { fits = omega (arith, weighs-small v e f) }

-- ---- sums
pub weighed-more : (κ : Kind) (l : List ℕ) (start n : ℕ) → weighed κ l start (n + 1) ≡ weighed κ l start n + number_weight κ n * get_or l (start + n) 0
unfolding weighed
weighed-more κ l start n = sum_more n (λ v. number_weight κ v * get_or l (start + v) 0)

-- a chain over numbers, each with its place
abbrev pub number_term : ℕ × ℕ → ℕ
number_term p = number_weight quadratic p.0 * p.1

pub weighed-chain : (l : List ℕ) → sum_by number_term (enumerate_from 0 l) ≡ weighed quadratic l 0 (length l)
unfolding weighed
weighed-chain l =
    sum_by-numbered number_term l 0
    ∙ sum-cong (length l) (λ v. number_weight quadratic v * get_or l v 0) (λ v. number_weight quadratic v * get_or l (0 + v) 0) (λ v k. ap (λ i. number_weight quadratic v * get_or l i 0) (sym (zero-add v)))

pub weighed-le : (l : List ℕ) (n : ℕ) → ((v : ℕ) → Fits w32 (get_or l v 0)) → weighed quadratic l 0 n ≤ n * (16 * 2 ^ 32)
unfolding weighed
weighed-le l n f = sum-le-each n (16 * 2 ^ 32) (λ v. number_weight quadratic v * get_or l (0 + v) 0) (λ v _. weighs-small v refl (f (0 + v)))

-- all numbers of an element are its mass
pub mass-is : (κ : Kind) (p : List ℕ) (e : ℕ) → mass κ p e ≡ weighed κ p (e * element_length κ) (element_length κ)
unfolding mass weighted remainder cell element_length weighed
mass-is κ p e =
    let at : ℕ → ℕ = λ v. get_or p (e * element_length κ + v) 0 in
    ap₂ ◌+◌ (sum-cong κ.nodes (λ k. κ.weight k * at k) (λ v. number_weight κ v * at v) (λ k h. ap (λ w. w * at k) (sym (node-number κ k h))))
    (sym (ap (λ w. w * at κ.nodes) (last-number κ κ.nodes (omega arith)) ∙ one-mul (at κ.nodes)))
    ∙ sym (weighed-more κ p (e * element_length κ) κ.nodes)

-- an element of ten numbers, and one that is a list of its own
pub mass-ten : (p : List ℕ) (e : ℕ) → mass quadratic p e ≡ weighed quadratic p (e * 10) 10
mass-ten p e = rw ten at (mass-is quadratic p e)

pub mass-first : (p : List ℕ) → weighed quadratic p 0 10 ≡ mass quadratic p 0
mass-first p = sym (mass-ten p 0)
