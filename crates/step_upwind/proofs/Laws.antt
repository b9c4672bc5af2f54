-- Where upwind values stand in a stage that is a list: a line's start is computed from the wind's sign, as the machine does it; what holds of
-- each of the four sides is shown side by side.
use mathlib.Core.Path.{◌≡◌, refl, sym, ap, subst, ◌∙◌}
use mathlib.Core.Bool.{Bool, cond}
use Prim.Native.Nat.{ℕ, zero, suc, ◌+◌, ◌*◌, ◌<◌}
use native.Mathlib.Nat.{one-mul}
use native.Mathlib.Omega.{arith}
use lib.IntN.{ℤ, pos, negsuc, neg_ℤ, ◌+ℤ◌, ◌-ℤ◌, ◌*ℤ◌}
use lib.Signed.{non_neg, le_z}
use borrow.Author.Tests.{le-leb}
use mir.Syntax.{w64}
use mir.Val.{to_z, of_z}
use mir.Facts.{to_z_pos}
use Rattle.whole.specs.Bound.{Within}
use Rattle.whole.specs.Parts.{positive, negative}
use Rattle.whole.proofs.WholeLaws.{eq-parts, add_parts, sub-parts-of, positive-mul, negative-mul}
use Rattle.whole.proofs.Sizes.{exacts, exact}
use Rattle.rules.specs.Sizes.{most_elements}
use Rattle.step_upwind.specs.Upwind.{sign, upwind_start}

-- ---- where a face's values begin, by the sign of its wind
pub sign-is : (c : ℤ) → le_z (pos 0) c ≡ non_neg c
sign-is (pos a) = le-leb 0 a (omega arith)
sign-is (negsuc a) = refl

pub sign_of : {b : Bool} (c : ℤ) → non_neg c ≡ b → cond b (pos 0) (negsuc 0) ≡ sign c
sign_of c e = ap (λ b. cond b (pos 0) (negsuc 0)) (sym e)

pub sign_small : (c : ℤ) → Within 1 (sign c)
sign_small (pos n) = record { within = omega arith }
sign_small (negsuc n) = record { within = omega arith }

minus_one : (z : ℤ) → negsuc 0 *ℤ z ≡ neg_ℤ z
minus_one (pos n) = ap (λ x. neg_ℤ (pos x)) (one-mul n)
minus_one (negsuc n) = ap pos (one-mul (suc n))

-- one of two places, by the sign
chosen : (c : ℤ) (b a : ℕ) → pos b +ℤ sign c *ℤ (pos b -ℤ pos a) ≡ pos (cond (non_neg c) b a)
unfolding positive negative
chosen (pos n) b a = eq-parts (omega (arith, add_parts (pos b) (pos 0 *ℤ (pos b -ℤ pos a)), positive-mul 0 (pos b -ℤ pos a), negative-mul 0 (pos b -ℤ pos a)))
chosen (negsuc n) b a = ap (λ z. pos b +ℤ z) (minus_one (pos b -ℤ pos a)) ∙ eq-parts (omega (arith, sub-parts-of (pos b) (pos b -ℤ pos a), sub-parts-of (pos b) (pos a)))

-- the places of a stage on the largest grid
abbrev pub most_places : ℕ
most_places = most_elements * 9

-- a place as the machine reads it
pub place-small : (b : ℕ) → b < most_places → Within most_places (to_z w64 b)
place-small b h = subst (Within most_places) (sym (to_z_pos w64 {n = b} (omega arith))) (record { within = omega arith })

pub chosen-small : (c : ℤ) (b a n : ℕ) → b < n → a < n → cond (non_neg c) b a < n
chosen-small (pos k) b a n hb ha = hb
chosen-small (negsuc k) b a n hb ha = ha

-- the place as the machine computes it
abbrev pub machine_place : ℤ → ℤ → ℤ → ℤ
machine_place s b a = to_z w64 (of_z w64 (b +ℤ to_z w64 (of_z w64 (to_z w64 (of_z w64 s) *ℤ to_z w64 (of_z w64 (b -ℤ a))))))

place-exact : (s b a : ℤ) → Within 1 s → Within most_places b → Within most_places a → machine_place s b a ≡ b +ℤ s *ℤ (b -ℤ a)
place-exact s b a hs hb ha = exact (search exacts depth 20) tt

pub place_is : (c s : ℤ) (b a : ℕ) → s ≡ sign c → b < most_places → a < most_places → machine_place s (to_z w64 b) (to_z w64 a) ≡ pos (cond (non_neg c) b a)
place_is c s b a h hb ha =
    let eb : to_z w64 b ≡ pos b = to_z_pos w64 (omega arith) in
    let ea : to_z w64 a ≡ pos a = to_z_pos w64 (omega arith) in
    (λ i. machine_place (h i) (eb i) (ea i)) ∙ place-exact (sign c) (pos b) (pos a) (sign_small c) (record { within = omega arith }) (record { within = omega arith }) ∙ chosen c b a

pub start_is : (c : ℤ) (behind ahead last : ℕ) → cond (non_neg c) (behind * 9 + last) (ahead * 9) ≡ upwind_start c behind ahead last
unfolding upwind_start
start_is c behind ahead last = refl

-- ---- the sides
-- a statement on each of the four sides
pub four : (P : ℕ → Type 0) → P 0 → P 1 → P 2 → P 3 → (s : ℕ) → s < 4 → P s
four P a b c d zero h = a
four P a b c d (suc zero) h = b
four P a b c d (suc (suc zero)) h = c
four P a b c d (suc (suc (suc zero))) h = d
four P a b c d (suc (suc (suc (suc s)))) h = let f : ⊥ = omega arith in absurd f
