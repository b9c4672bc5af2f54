-- A mark, by std's test of a front.
use Rattle.std.proofs.Common.{◌≡◌, refl, sym, ◌∙◌, ℕ, ◌≤◌, Bool, true, false, ◌&&◌, List, [], ◌∷◌, length, take, get_or, eqb, arith}
use Rattle.std.specs.Cmp.Lexicographic.{pointwise}
use native.Mathlib.Decide.{ℕ_discrete}
use borrow.Author.Tests.{eq-eqb, ne_eqb}
use Rattle.whole.specs.Sum.{all}

eqb-swap : (m n : ℕ) → eqb m n ≡ eqb n m
eqb-swap m n = go (ℕ_discrete m n)
  where
    go : Dec (m ≡ n) → eqb m n ≡ eqb n m
    go (yes e) = eq-eqb m n e ∙ sym (eq-eqb n m (sym e))
    go (no ne) = ne_eqb m n ne ∙ sym (ne_eqb n m (λ e. ne (sym e)))

regroup : (a b c d : Bool) → (a && (b && (c && (d && true)))) ≡ (((a && b) && c) && d)
regroup false b c d = refl
regroup true false c d = refl
regroup true true false d = refl
regroup true true true false = refl
regroup true true true true = refl

-- four bytes at the front
module _ (w x y z : ℕ) where
  abbrev four : List ℕ
  four = w ∷ x ∷ y ∷ z ∷ []

  pub marked : (p : List ℕ) → 4 ≤ length p → pointwise eqb four (take 4 p) ≡ all 4 (λ i. eqb (get_or p i 0) (get_or four i 0))
  unfolding all
  marked (a ∷ b ∷ c ∷ d ∷ p) h = rw (eqb-swap w a, eqb-swap x b, eqb-swap y c, eqb-swap z d) (regroup (eqb a w) (eqb b x) (eqb c y) (eqb d z))
  marked [] h = absurd (omega arith)
  marked (a ∷ []) h = absurd (omega arith)
  marked (a ∷ b ∷ []) h = absurd (omega arith)
  marked (a ∷ b ∷ c ∷ []) h = absurd (omega arith)
