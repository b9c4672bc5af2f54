-- The flux correction: what leaves an element is at most its mass, so no target is below 0; and an element's outflow by its
-- four sides.
use mathlib.Core.Path.{◌≡◌, refl, sym, ap, ap₂, ◌∙◌}
use mathlib.Core.Bool.{Bool, true, false, cond}
use Prim.Native.Nat.{ℕ, ◌+◌, ◌*◌, ◌≤◌, ◌<◌}
use native.Mathlib.Nat.{le_trans, le_of_eq, one-mul, zero-mul}
use native.Mathlib.Omega.{arith}
use lib.Dec.{T, eqb, eqb→eq, eqb_refl}
use lib.IntN.{ℤ, pos, negsuc, neg_ℤ, nat_abs, ◌+ℤ◌, ◌-ℤ◌}
use lib.Signed.{non_neg, ◌≤ℤ◌}
use Rattle.whole.specs.Parts.{positive, negative}
use Rattle.whole.specs.Sum.{sum, sum_ℤ}
use Rattle.whole.proofs.Cases.{cond_yes, cond_same}
use Rattle.whole.proofs.WholeLaws.{positive-pos, negative-pos, positive-neg, negative-neg, add_parts, negative-diff, not-below, abs_neg, pos-injective, le_parts}
use Rattle.whole.proofs.SumLaws.{sum-le, sum-cong, sum-add, sum-split, sum_ℤ-cong, sum_ℤ-parts, sum-pos, term-le}
use Rattle.rules.specs.declared.Shape.{Shape}
use Rattle.rules.specs.Field.{elements, faces, north_face}
use Rattle.rules.specs.Grid.{west, south, behind, ahead}
use Rattle.rules.specs.Limiter.{rescaled}
use Rattle.rules.specs.Correction.{donor, outflow, with_sign, cut, limited_flux, target}
use Rattle.rules.specs.Ledger.{only}
use Rattle.rules.proofs.RescalingLaws.{rescaled-le}
use Rattle.rules.proofs.GridLaws.{moved, target_is, sum-only, Direction, eastward, northward}

-- 1 or 0, as a weight
abbrev one-if : Bool → ℕ
one-if b = cond b 1 0

weigh : (b : Bool) (x : ℕ) → cond b x 0 ≡ one-if b * x
weigh true x = sym (one-mul x)
weigh false x = sym (zero-mul x)

pub abs-with_sign : (z : ℤ) (n : ℕ) → nat_abs (with_sign z n) ≡ n
unfolding with_sign
abs-with_sign (pos a) n = refl
abs-with_sign (negsuc a) n = abs_neg (pos n)

-- what is said of d where d is e may be said of e
at-e : (d e : ℕ) (h : ℕ → ℕ) → cond (eqb d e) (h d) 0 ≡ cond (eqb d e) (h e) 0
at-e d e h = go (eqb d e) (eqb→eq d e)
  where
    go : (b : Bool) → (T b → d ≡ e) → cond b (h d) 0 ≡ cond b (h e) 0
    go true q = ap h (q tt)
    go false q = refl

negative-only : (b : Bool) (x : ℤ) → negative (only b x) ≡ cond b (negative x) 0
unfolding negative
negative-only true x = refl
negative-only false x = refl

positive-only : (b : Bool) (x : ℤ) → positive (only b x) ≡ cond b (positive x) 0
unfolding positive
positive-only true x = refl
positive-only false x = refl

-- a face takes from its donor alone, and at most its size
takes : (z : ℤ) (n to from e : ℕ) → negative (only (eqb to e) (with_sign z n) -ℤ only (eqb from e) (with_sign z n)) ≤ cond (eqb (cond (non_neg z) from to) e) n 0
unfolding with_sign
takes (pos a) n to from e = omega (
  arith,
  negative-diff (only (eqb to e) (pos n)) (only (eqb from e) (pos n)),
  negative-only (eqb to e) (pos n),
  positive-only (eqb from e) (pos n),
  ap (λ x. cond (eqb to e) x 0) (negative-pos n),
  ap (λ x. cond (eqb from e) x 0) (positive-pos n),
  cond_same {A = ℕ} (eqb to e) 0,
)
takes (negsuc a) n to from e = omega (
  arith,
  negative-diff (only (eqb to e) (neg_ℤ (pos n))) (only (eqb from e) (neg_ℤ (pos n))),
  negative-only (eqb to e) (neg_ℤ (pos n)),
  positive-only (eqb from e) (neg_ℤ (pos n)),
  ap (λ x. cond (eqb to e) x 0) (negative-neg (pos n) ∙ positive-pos n),
  ap (λ x. cond (eqb from e) x 0) (positive-neg (pos n) ∙ negative-pos n),
  cond_same {A = ℕ} (eqb from e) 0,
)

module _ (g : Shape) (m : ℕ → ℕ) (flux : ℕ → ℤ) where
  -- the limited fluxes, by the outflows as the rules state them
  abbrev pub limited : ℕ → ℤ
  limited = limited_flux (donor g flux) m flux (outflow g (donor g flux) flux)

  abbrev size : ℕ → ℕ → ℕ
  size e f = rescaled (outflow g (donor g flux) flux e) (m e) (nat_abs (flux f))

  abs-limited : (f : ℕ) → nat_abs (limited f) ≡ size (donor g flux f) f
  unfolding limited_flux cut
  abs-limited f = abs-with_sign (flux f) (size (donor g flux f) f)

  outflow-weighed : (e : ℕ) → outflow g (donor g flux) flux e ≡ sum (faces g) (λ f. one-if (eqb (donor g flux f) e) * nat_abs (flux f))
  unfolding outflow
  outflow-weighed e = sum-cong (faces g) (λ f. cond (eqb (donor g flux f) e) (nat_abs (flux f)) 0) (λ f. one-if (eqb (donor g flux f) e) * nat_abs (flux f))
      (λ f _. weigh (eqb (donor g flux f) e) (nat_abs (flux f)))

  -- what leaves element e over the faces where it is donor
  abbrev pub leaving : ℕ → ℕ
  leaving e = sum (faces g) (λ f. cond (eqb (donor g flux f) e) (nat_abs (limited f)) 0)

  pub leaving-le : (e : ℕ) → leaving e ≤ m e
  leaving-le e = le_trans (le_of_eq (sum-cong (faces g) (λ f. cond (eqb (donor g flux f) e) (nat_abs (limited f)) 0)
      (λ f. one-if (eqb (donor g flux f) e) * rescaled (sum (faces g) (λ f. one-if (eqb (donor g flux f) e) * nat_abs (flux f))) (m e) (nat_abs (flux f)))
      (λ f _. ap (λ x. cond (eqb (donor g flux f) e) x 0) (abs-limited f) ∙ at-e (donor g flux f) e (λ x. size x f) ∙ weigh (eqb (donor g flux f) e) (size e f)
      ∙ ap (λ x. one-if (eqb (donor g flux f) e) * rescaled x (m e) (nat_abs (flux f))) (outflow-weighed e))))
      (rescaled-le (faces g) (λ f. one-if (eqb (donor g flux f) e)) (λ f. nat_abs (flux f)) (m e))

  -- a limited flux is at most what its donor holds
  pub limited-le : (f : ℕ) → f < faces g → nat_abs (limited f) ≤ m (donor g flux f)
  limited-le f h =
      let d = donor g flux f in
      le_trans (le_trans (le_of_eq (sym (cond_yes (eqb d d) (nat_abs (limited f)) 0 (eqb_refl d))))
      (term-le (faces g) (λ x. cond (eqb (donor g flux x) d) (nat_abs (limited x)) 0) f h)) (leaving-le d)

  taken-le : (e f : ℕ) → negative (moved g limited e f) ≤ cond (eqb (donor g flux f) e) (nat_abs (limited f)) 0
  unfolding moved limited_flux cut donor
  taken-le e f = le_trans (takes (flux f) (size (donor g flux f) f) (ahead g f) (behind g f) e)
      (le_of_eq (ap (λ x. cond (eqb (donor g flux f) e) x 0) (sym (abs-limited f))))

  -- so no target is below 0
  pub target-negative : (hx : 0 < g.nx) (hy : 0 < g.ny) (e : ℕ) → e < elements g → negative (target g m limited e) ≡ 0
  target-negative hx hy e h =
      let s : ℤ = sum_ℤ (faces g) (moved g limited e) in
      let le = sum-le (faces g) (λ f. negative (moved g limited e f)) (λ f. cond (eqb (donor g flux f) e) (nat_abs (limited f)) 0) (λ f _. taken-le e f) in
      ap negative (sym (target_is g hx hy m limited e h))
      ∙ not-below (pos (m e) +ℤ s) (omega (arith, le, leaving-le e, sum_ℤ-parts (faces g) (moved g limited e), add_parts (pos (m e)) s, positive-pos (m e), negative-pos (m e)))

  pub target-above : (hx : 0 < g.nx) (hy : 0 < g.ny) (e : ℕ) → e < elements g → pos 0 ≤ℤ target g m limited e
  target-above hx hy e h = le_parts (pos 0) (target g m limited e) (omega (arith, target-negative hx hy e h, positive-pos 0, negative-pos 0))

-- ---- the outflow by an element's four sides
pos-cond : (b : Bool) (x : ℕ) → pos (cond b x 0) ≡ only b (pos x)
pos-cond true x = refl
pos-cond false x = refl

sum-where : (n : ℕ) (p x : ℕ → ℕ) (e q : ℕ) → q < n → p q ≡ e → ((f : ℕ) → f < n → p f ≡ e → f ≡ q) → sum n (λ f. cond (eqb (p f) e) (x f) 0) ≡ x q
sum-where n p x e q h y inj = pos-injective (sym (sum-pos n (λ f. cond (eqb (p f) e) (x f) 0))
    ∙ sum_ℤ-cong n (λ f. pos (cond (eqb (p f) e) (x f) 0)) (λ f. only (eqb (p f) e) (pos (x f))) (λ f _. pos-cond (eqb (p f) e) (x f))
    ∙ sum-only n p (λ f. pos (x f)) e q h y inj)

-- a face's size is taken once: from behind where the flux is positive, from ahead where it is negative
once : (z : ℤ) (from to e : ℕ) → cond (eqb (cond (non_neg z) from to) e) (nat_abs z) 0 ≡ cond (eqb from e) (positive z) 0 + cond (eqb to e) (negative z) 0
unfolding positive negative
once (pos a) from to e = omega (arith, cond_same {A = ℕ} (eqb to e) 0)
once (negsuc a) from to e = omega (arith, cond_same {A = ℕ} (eqb from e) 0)

module _ (g : Shape) (flux : ℕ → ℤ) (d : Direction g) where
  out-one-way : (e : ℕ) → e < elements g → sum (elements g) (λ f. cond (eqb (donor g flux (d.at f)) e) (nat_abs (flux (d.at f))) 0) ≡ positive (flux (d.at e)) + negative (flux (d.at (d.back e)))
  unfolding donor
  out-one-way e h =
      sum-cong (elements g) (λ f. cond (eqb (donor g flux (d.at f)) e) (nat_abs (flux (d.at f))) 0)
      (λ f. cond (eqb f e) (positive (flux (d.at f))) 0 + cond (eqb (d.on f) e) (negative (flux (d.at f))) 0)
      (λ f l. once (flux (d.at f)) (behind g (d.at f)) (ahead g (d.at f)) e
      ∙ ap₂ (λ a b. cond (eqb a e) (positive (flux (d.at f))) 0 + cond (eqb b e) (negative (flux (d.at f))) 0) (d.behind-is f l) (d.ahead-is f l))
      ∙ sum-add (elements g) (λ f. cond (eqb f e) (positive (flux (d.at f))) 0) (λ f. cond (eqb (d.on f) e) (negative (flux (d.at f))) 0)
      ∙ ap₂ ◌+◌
      (sum-where (elements g) (λ f. f) (λ f. positive (flux (d.at f))) e e h refl (λ f l z. z))
      (sum-where (elements g) d.on (λ f. negative (flux (d.at f))) e (d.back e) (d.back-lt e h) (d.on-of-back e h) (λ f l z. sym (d.back-of-on f l) ∙ ap d.back z))

module _ (g : Shape) (hx : 0 < g.nx) (hy : 0 < g.ny) (flux : ℕ → ℤ) where
  pub outflow-local : (e : ℕ) → e < elements g
      → outflow g (donor g flux) flux e ≡ (positive (flux e) + negative (flux (west g e))) + (positive (flux (north_face g e)) + negative (flux (north_face g (south g e))))
  unfolding outflow
  outflow-local e h = sum-split (elements g) (elements g) (λ f. cond (eqb (donor g flux f) e) (nat_abs (flux f)) 0)
      ∙ ap₂ ◌+◌ (out-one-way g flux (eastward g hx hy) e h) (out-one-way g flux (northward g hx hy) e h)
