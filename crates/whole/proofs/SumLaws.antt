-- Laws of sums over a number of terms.
use mathlib.Core.Path.{◌≡◌, refl, sym, ap, ap₂, subst, ◌∙◌}
use mathlib.Core.Bool.{Bool, true, false, ◌&&◌, not}
use mathlib.Core.Logic.{◌≢◌}
use Prim.Native.Nat.{ℕ, zero, suc, ◌+◌, ◌*◌, ◌≤◌, ◌<◌}
use native.Mathlib.Nat.{mul-zero, mul-add, mul_comm, le_refl, add-zero, add-suc}
use native.Mathlib.Decide.{ℕ_discrete, le_ind}
use native.Mathlib.Numerals.{add-one}
use native.Mathlib.Omega.{arith}
use lib.Dec.{T}
use lib.IntN.{ℤ, pos, nat_abs, ◌+ℤ◌, ◌*ℤ◌, +ℤ_idl, +ℤ_idr, +ℤ_assoc}
use Rattle.whole.specs.Parts.{positive, negative}
use Rattle.whole.specs.Sum.{sum, sum_ℤ, all}
use Rattle.whole.proofs.Cases.{both, both_yes, either}
use Rattle.whole.proofs.WholeLaws.{add_parts, eq-parts, abs-add, pos-injective, positive-mul, negative-mul}

-- ---- sums of naturals
pub sum_more : (n : ℕ) (f : ℕ → ℕ) → sum (n + 1) f ≡ sum n f + f n
unfolding sum
sum_more n f = rw (add-one n)

pub sum-le : (n : ℕ) (f g : ℕ → ℕ) → ((i : ℕ) → i < n → f i ≤ g i) → sum n f ≤ sum n g
unfolding sum
sum-le zero f g h = le_refl 0
sum-le (suc n) f g h = omega (arith, sum-le n f g (λ i k. h i (omega arith)), h n (omega arith))

-- n terms of at most m
pub sum-le-each : (n m : ℕ) (f : ℕ → ℕ) → ((i : ℕ) → i < n → f i ≤ m) → sum n f ≤ n * m
unfolding sum
sum-le-each zero m f h = omega arith
sum-le-each (suc n) m f h = omega (arith, sum-le-each n m f (λ i l. h i (omega arith)), h n (omega arith), native.Mathlib.Nat.suc-mul n m)

pub sum-cong : (n : ℕ) (f g : ℕ → ℕ) → ((i : ℕ) → i < n → f i ≡ g i) → sum n f ≡ sum n g
unfolding sum
sum-cong zero f g h = refl
sum-cong (suc n) f g h = ap₂ ◌+◌ (sum-cong n f g (λ i k. h i (omega arith))) (h n (omega arith))

pub sum-zero : (n : ℕ) (f : ℕ → ℕ) → ((i : ℕ) → i < n → f i ≡ 0) → sum n f ≡ 0
unfolding sum
sum-zero zero f h = refl
sum-zero (suc n) f h = ap₂ ◌+◌ (sum-zero n f (λ i l. h i (omega arith))) (h n (omega arith))

pub sum-add : (n : ℕ) (f g : ℕ → ℕ) → sum n (λ i. f i + g i) ≡ sum n f + sum n g
unfolding sum
sum-add zero f g = refl
sum-add (suc n) f g = omega (arith, sum-add n f g)

pub sum-mul : (n c : ℕ) (f : ℕ → ℕ) → sum n (λ i. c * f i) ≡ c * sum n f
unfolding sum
sum-mul zero c f = sym (mul-zero c)
sum-mul (suc n) c f = ap (λ x. x + c * f n) (sum-mul n c f) ∙ sym (mul-add c (sum n f) (f n))

pub sum-mul-right : (n c : ℕ) (f : ℕ → ℕ) → sum n (λ i. f i * c) ≡ sum n f * c
sum-mul-right n c f = sum-cong n (λ i. f i * c) (λ i. c * f i) (λ i _. mul_comm (f i) c) ∙ sum-mul n c f ∙ mul_comm c (sum n f)

pub term-le : (n : ℕ) (f : ℕ → ℕ) (k : ℕ) → k < n → f k ≤ sum n f
unfolding sum
term-le zero f k h = omega arith
term-le (suc n) f k h = go (ℕ_discrete k n) (λ l. term-le n f k l)
  where
    go : Dec (k ≡ n) → (k < n → f k ≤ sum n f) → f k ≤ sum n f + f n
    go (yes e) ih = omega (arith, ap f e)
    go (no ne) ih = omega (arith, ih (omega (arith, ne)))

-- ---- sums of whole numbers
pub sum_ℤ-parts : (n : ℕ) (f : ℕ → ℤ) → positive (sum_ℤ n f) + sum n (λ i. negative (f i)) ≡ negative (sum_ℤ n f) + sum n (λ i. positive (f i))
unfolding sum sum_ℤ positive negative
sum_ℤ-parts zero f = refl
sum_ℤ-parts (suc n) f = omega (arith, sum_ℤ-parts n f, add_parts (sum_ℤ n f) (f n))

pub sum_ℤ-cong : (n : ℕ) (f g : ℕ → ℤ) → ((i : ℕ) → i < n → f i ≡ g i) → sum_ℤ n f ≡ sum_ℤ n g
unfolding sum_ℤ
sum_ℤ-cong zero f g h = refl
sum_ℤ-cong (suc n) f g h = ap₂ ◌+ℤ◌ (sum_ℤ-cong n f g (λ i k. h i (omega arith))) (h n (omega arith))

swap : (a b c d : ℤ) → (a +ℤ b) +ℤ (c +ℤ d) ≡ (a +ℤ c) +ℤ (b +ℤ d)
swap a b c d = eq-parts (omega (arith, add_parts (a +ℤ b) (c +ℤ d), add_parts (a +ℤ c) (b +ℤ d), add_parts a b, add_parts c d, add_parts a c, add_parts b d))

pub sum_ℤ-add : (n : ℕ) (f g : ℕ → ℤ) → sum_ℤ n (λ i. f i +ℤ g i) ≡ sum_ℤ n f +ℤ sum_ℤ n g
unfolding sum_ℤ
sum_ℤ-add zero f g = refl
sum_ℤ-add (suc n) f g = ap (λ x. x +ℤ (f n +ℤ g n)) (sum_ℤ-add n f g) ∙ swap (sum_ℤ n f) (sum_ℤ n g) (f n) (g n)

pub sum_ℤ-zero : (n : ℕ) (f : ℕ → ℤ) → ((i : ℕ) → i < n → f i ≡ pos 0) → sum_ℤ n f ≡ pos 0
unfolding sum_ℤ
sum_ℤ-zero zero f h = refl
sum_ℤ-zero (suc n) f h = ap₂ ◌+ℤ◌ (sum_ℤ-zero n f (λ i k. h i (omega arith))) (h n (omega arith))

-- only one term counts
pub sum_ℤ-single : (n : ℕ) (f : ℕ → ℤ) (k : ℕ) → k < n → ((i : ℕ) → i < n → i ≢ k → f i ≡ pos 0) → sum_ℤ n f ≡ f k
unfolding sum_ℤ
sum_ℤ-single zero f k h z = let c : ⊥ = omega arith in absurd c
sum_ℤ-single (suc n) f k h z = go (λ l. sum_ℤ-single n f k l (λ i l. z i (omega arith))) (ℕ_discrete n k)
  where
    bad : n ≡ k → (i : ℕ) → i < n → i ≡ k → ⊥
    bad e i l q = omega arith

    go : (k < n → sum_ℤ n f ≡ f k) → Dec (n ≡ k) → sum_ℤ n f +ℤ f n ≡ f k
    go ih (yes e) = ap (λ x. x +ℤ f n) (sum_ℤ-zero n f (λ i l. z i (omega arith) (bad e i l))) ∙ +ℤ_idl (f n) ∙ ap f e
    go ih (no ne) = ap₂ ◌+ℤ◌ (ih (omega (arith, ne))) (z n (omega arith) ne) ∙ +ℤ_idr (f k)

pub sum_ℤ-split : (m n : ℕ) (f : ℕ → ℤ) → sum_ℤ (m + n) f ≡ sum_ℤ m f +ℤ sum_ℤ n (λ i. f (m + i))
unfolding sum_ℤ
sum_ℤ-split m zero f = rw (add-zero, +ℤ_idr)
sum_ℤ-split m (suc n) f = rw add-suc (ap (λ x. x +ℤ f (m + n)) (sum_ℤ-split m n f) ∙ +ℤ_assoc (sum_ℤ m f) (sum_ℤ n (λ i. f (m + i))) (f (m + n)))

pub abs-sum : (n : ℕ) (f : ℕ → ℤ) (b : ℕ → ℕ) → ((i : ℕ) → i < n → nat_abs (f i) ≤ b i) → nat_abs (sum_ℤ n f) ≤ sum n b
unfolding sum sum_ℤ
abs-sum zero f b h = le_refl 0
abs-sum (suc n) f b h = omega (arith, abs-add (sum_ℤ n f) (f n), abs-sum n f b (λ i l. h i (omega arith)), h n (omega arith))

-- ---- a sum of naturals is the same sum of whole numbers
pub sum-pos : (n : ℕ) (f : ℕ → ℕ) → sum_ℤ n (λ i. pos (f i)) ≡ pos (sum n f)
unfolding sum sum_ℤ
sum-pos zero f = refl
sum-pos (suc n) f = ap (λ x. x +ℤ pos (f n)) (sum-pos n f)

pub sum-single : (n : ℕ) (f : ℕ → ℕ) (k : ℕ) → k < n → ((i : ℕ) → i < n → i ≢ k → f i ≡ 0) → sum n f ≡ f k
sum-single n f k h z = pos-injective (sym (sum-pos n f) ∙ sum_ℤ-single n (λ i. pos (f i)) k h (λ i l ne. ap pos (z i l ne)))

pub sum-split : (m n : ℕ) (f : ℕ → ℕ) → sum (m + n) f ≡ sum m f + sum n (λ i. f (m + i))
sum-split m n f = pos-injective (sym (sum-pos (m + n) f) ∙ sum_ℤ-split m n (λ i. pos (f i)) ∙ ap₂ ◌+ℤ◌ (sum-pos m f) (sum-pos n (λ i. f (m + i))))

-- the two parts of a sum with natural weights
pub weighted-parts : (n : ℕ) (w : ℕ → ℕ) (f : ℕ → ℤ)
    → positive (sum_ℤ n (λ k. pos (w k) *ℤ f k)) + sum n (λ k. w k * negative (f k)) ≡ negative (sum_ℤ n (λ k. pos (w k) *ℤ f k)) + sum n (λ k. w k * positive (f k))
weighted-parts n w f = omega (
  arith,
  sum_ℤ-parts n (λ k. pos (w k) *ℤ f k),
  sum-cong n (λ k. positive (pos (w k) *ℤ f k)) (λ k. w k * positive (f k)) (λ k _. positive-mul (w k) (f k)),
  sum-cong n (λ k. negative (pos (w k) *ℤ f k)) (λ k. w k * negative (f k)) (λ k _. negative-mul (w k) (f k)),
)

-- values that are all raised by s: their weighted sum rises by the weights' sum times s
pub weighted-raised : (n : ℕ) (w : ℕ → ℕ) (f : ℕ → ℤ) (s : ℤ) → sum_ℤ n (λ k. pos (w k) *ℤ (f k +ℤ s)) ≡ sum_ℤ n (λ k. pos (w k) *ℤ f k) +ℤ pos (sum n w) *ℤ s
weighted-raised n w f s = eq-parts (omega (
  arith,
  weighted-parts n w f,
  weighted-parts n w (λ k. f k +ℤ s),
  add_parts (sum_ℤ n (λ k. pos (w k) *ℤ f k)) (pos (sum n w) *ℤ s),
  positive-mul (sum n w) s,
  negative-mul (sum n w) s,
  sum-cong n (λ k. w k * positive (f k +ℤ s) + (w k * negative (f k) + w k * negative s)) (λ k. w k * negative (f k +ℤ s) + (w k * positive (f k) + w k * positive s)) (λ k _. raised-term (w k) (f k)),
  sum-add n (λ k. w k * positive (f k +ℤ s)) (λ k. w k * negative (f k) + w k * negative s),
  sum-add n (λ k. w k * negative (f k +ℤ s)) (λ k. w k * positive (f k) + w k * positive s),
  sum-add n (λ k. w k * negative (f k)) (λ k. w k * negative s),
  sum-add n (λ k. w k * positive (f k)) (λ k. w k * positive s),
  sum-mul-right n (negative s) w,
  sum-mul-right n (positive s) w,
))
  where
    raised-term : (v : ℕ) (a : ℤ) → v * positive (a +ℤ s) + (v * negative a + v * negative s) ≡ v * negative (a +ℤ s) + (v * positive a + v * positive s)
    raised-term v a = omega (
      arith,
      ap (λ x. v * x) (add_parts a s),
      mul-add v (positive (a +ℤ s)) (negative a + negative s),
      mul-add v (negative a) (negative s),
      mul-add v (negative (a +ℤ s)) (positive a + positive s),
      mul-add v (positive a) (positive s),
    )

-- ---- a test of all indices tells of each
pub all-at : (n : ℕ) (f : ℕ → Bool) → T (all n f) → (i : ℕ) → i < n → T (f i)
unfolding all
all-at zero f t i h = let c : ⊥ = omega arith in absurd c
all-at (suc n) f t i h =
    let b = both_yes (all n f) (f n) t in
    go (ℕ_discrete i n) b.1 (λ l. all-at n f b.0 i l)
  where
    go : Dec (i ≡ n) → T (f n) → (i < n → T (f i)) → T (f i)
    go (yes e) t ih = subst (λ k. T (f k)) (sym e) t
    go (no ne) t ih = ih (omega (arith, ne))

pub all_of : (n : ℕ) (f : ℕ → Bool) → ((i : ℕ) → i < n → T (f i)) → T (all n f)
unfolding all
all_of zero f h = tt
all_of (suc n) f h = both (all n f) (f n) (all_of n f (λ i l. h i (omega arith))) (h n (omega arith))

pub all_more : (n : ℕ) (f : ℕ → Bool) → all n f ≡ true → f n ≡ true → all (n + 1) f ≡ true
unfolding all
all_more n f e h = rw (add-one n, e, h)

pub all-fails : (n : ℕ) (f : ℕ → Bool) (k : ℕ) → k < n → f k ≡ false → all n f ≡ false
all-fails n f k h e = either (all n f) (λ t. let q = rw e at (all-at n f t k h) in absurd q) (λ t. none (all n f) t)
  where
    none : (b : Bool) → T (not b) → b ≡ false
    none true t = absurd t
    none false t = refl

-- ---- one term more, and more terms
pub sum_ℤ-more : (n : ℕ) (f : ℕ → ℤ) → sum_ℤ (n + 1) f ≡ sum_ℤ n f +ℤ f n
unfolding sum_ℤ
sum_ℤ-more n f = rw (add-one n)

pub sum_mono : (f : ℕ → ℕ) (m n : ℕ) → m ≤ n → sum m f ≤ sum n f
unfolding sum
sum_mono f m n h = le_ind (λ k. sum m f ≤ sum k f) (le_refl (sum m f)) (λ k l r. omega arith) n h

-- tests that are equal everywhere are passed together
pub all-cong : (n : ℕ) (f h : ℕ → Bool) → ((i : ℕ) → i < n → f i ≡ h i) → all n f ≡ all n h
unfolding all
all-cong zero f h e = refl
all-cong (suc n) f h e = ap₂ ◌&&◌ (all-cong n f h (λ i l. e i (omega arith))) (e n (omega arith))
