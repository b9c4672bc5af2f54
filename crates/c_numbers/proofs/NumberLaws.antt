-- Answers as numbers.
use mathlib.Core.Path.{◌≡◌, refl, sym, ap, subst, ◌∙◌}
use Prim.Native.Nat.{ℕ, ◌≤◌}
use native.Mathlib.Omega.{arith}
use lib.IntN.{ℤ, pos, neg_ℤ}
use mir.Syntax.{w64}
use mir.Val.{to_z, of_z}
use mir.Facts.{to_z_pos}
use Rattle.whole.specs.Bound.{Within, Are}
use Rattle.whole.proofs.BoundLaws.{within-le}
use Rattle.whole.proofs.Sizes.{are-eq, read_back}
use Rattle.rules.specs.declared.Shape.{Shape}
use Rattle.rules.specs.declared.Refusal.{Refusal}
use Rattle.rules.specs.Answers.{Answer, accepted, refused, number}
use Rattle.rules.specs.Field.{Admitted, limit}
use Rattle.rules.specs.Answers.{AtMost}
use Rattle.c_numbers.specs.Numbers.{most_answered, number_or, shape_number, shape_or, AdmittedShape}

-- ---- an answered number, and a refusal's, as signed numbers
pub number_is : (a : Answer ℕ) (n : ℕ) → AtMost most_answered a → a ≡ accepted n → Are most_answered (to_z w64 n) (number_or a)
unfolding number_or
number_is a n h e =
    let small = h.small n e in
    record { same = to_z_pos w64 (omega arith) ∙ sym (ap number_or e); bound = subst (λ x. Within most_answered (number_or x)) (sym e) (record { within = small }) }

-- what a function f of answers gives for a refusal
refusal-of : {A : Type 0} {m : ℕ} (f : Answer A → ℤ) (a : Answer A) (z : ℤ) (r : Refusal) → 255 ≤ m → f (refused (number r)) ≡ neg_ℤ (pos (number r)) → Are 255 z (neg_ℤ (pos (number r)))
    → a ≡ refused (number r) → Are m (to_z w64 (of_z w64 z)) (f a)
refusal-of f a z r l e h q = are-eq (record { same = read_back w64 h tt; bound = within-le h.bound l }) (sym (ap f q ∙ e))

pub refusal_is : (a : Answer ℕ) (z : ℤ) (r : Refusal) → Are 255 z (neg_ℤ (pos (number r))) → a ≡ refused (number r) → Are most_answered (to_z w64 (of_z w64 z)) (number_or a)
unfolding number_or
refusal_is a z r = refusal-of number_or a z r (omega arith) refl

pub shape-refusal-is : (a : Answer Shape) (z : ℤ) (r : Refusal) → Are 255 z (neg_ℤ (pos (number r))) → a ≡ refused (number r) → Are limit (to_z w64 (of_z w64 z)) (shape_or a)
unfolding shape_or
shape-refusal-is a z r = refusal-of shape_or a z r (omega arith) refl

-- ---- an answered shape
pub shape-le : (g : Shape) → Admitted g → shape_number g ≤ 540736
shape-le g h = omega (arith, h.nx-small, h.ny-small, h.tracers-small)

pub shape_is : (a : Answer Shape) (g : Shape) → AdmittedShape a → a ≡ accepted g → Are limit (to_z w64 (shape_number g)) (shape_or a)
unfolding shape_or
shape_is a g h e =
    let small = shape-le g (h.small g e) in
    are-eq (record { same = to_z_pos w64 (omega arith); bound = record { within = omega arith } }) (sym (ap shape_or e))
