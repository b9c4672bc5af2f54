-- Held flux (document 02, 2026-05): at an element on the grid the sum over all faces is a rule over its four sides, also where one face lies on two of
-- them; and a step in which no face is cut gives what it gave before.
use mathlib.Core.Path.{◌≡◌, refl, sym, ap, ap₂, ◌∙◌}
use mathlib.Core.Bool.{Bool, true, false, cond, ◌&&◌}
use mathlib.Core.List.{List}
use Prim.Native.Nat.{ℕ, ◌*◌, ◌/◌, ◌%◌, ◌<◌}
use native.Mathlib.Nat.{zero-div, div-le_of_le-mul}
use native.Mathlib.Decide.{dec_lt}
use native.Mathlib.Omega.{arith}
use lib.Dec.{eqb}
use lib.IntN.{ℤ, pos, neg_ℤ, nat_abs, ◌+ℤ◌, ◌-ℤ◌, +ℤ_idr}
use lib.ListN.{get_or-eq_default}
use Rattle.whole.specs.Bound.{Within}
use Rattle.whole.specs.Sum.{sum, sum_ℤ}
use Rattle.whole.specs.Table.{at}
use Rattle.whole.proofs.Cases.{cond_yes, cond_no, cond_same}
use Rattle.whole.proofs.WholeLaws.{eq-parts, sub-parts-of, positive-pos, negative-pos}
use Rattle.whole.proofs.SumLaws.{sum_ℤ-cong, sum_ℤ-split, sum_ℤ-zero}
use Rattle.whole.proofs.TableLaws.{length-table}
use Rattle.rules.specs.declared.Shape.{Shape}
use Rattle.rules.specs.Field.{Kind, elements, faces, north_face}
use Rattle.rules.specs.Grid.{west, south, looks_east}
use Rattle.rules.specs.Stages.{last_place, stages, flux}
use Rattle.rules.specs.Correction.{with_sign}
use Rattle.rules.specs.HeldFlux.{node_rise, rises, face_rise, with_held_flux}
use Rattle.rules.specs.Step.{fluxes, report, tracer_step, step_without_held_flux, finish}
use Rattle.rules.specs.Ledger.{only}
use Rattle.rules.proofs.GridLaws.{only-neg, sum-ends, Direction, eastward, northward, looks-east, looks-north}
use Rattle.rules.proofs.CorrectionLaws.{abs-with_sign}
use Rattle.rules.proofs.StepLaws.{report-length}

-- ---- an element's four sides
-- what the faces at the two ends of a line of nodes, whose q are `first` and `last`, add at its place a
abbrev pub line_rise : Kind → ℤ → ℤ → ℕ → ℤ
line_rise κ first last a = only (eqb a (last_place κ)) last -ℤ only (eqb a 0) first

-- two tests, one after the other
both : (a b : Bool) (x : ℤ) → cond (a && b) x (pos 0) ≡ only a (only b x)
both true b x = refl
both false b x = refl

module _ (κ : Kind) (g : Shape) (q : ℕ → ℤ) (e k : ℕ) (d : Direction g) (place : ℕ) (places : (f : ℕ) → f < elements g → cond (looks_east g (d.at f)) (k % κ.side) (k / κ.side) ≡ place) where
  -- what the faces of one direction add at node k of element e
  rise-one-way : e < elements g → sum_ℤ (elements g) (λ f. face_rise κ g q e k (d.at f)) ≡ line_rise κ (q (d.at (d.back e))) (q (d.at e)) place
  unfolding face_rise
  rise-one-way h =
      sum_ℤ-cong (elements g) _ (λ f. only (eqb f e) (only (eqb place (last_place κ)) (q (d.at f))) +ℤ only (eqb (d.on f) e) (neg_ℤ (only (eqb place 0) (q (d.at f)))))
      (λ f l. (λ i. cond (eqb (d.behind-is f l i) e && eqb (places f l i) (last_place κ)) (q (d.at f)) (pos 0) -ℤ cond (eqb (d.ahead-is f l i) e && eqb (places f l i) 0) (q (d.at f)) (pos 0))
      ∙ ap₂ ◌-ℤ◌ (both (eqb f e) (eqb place (last_place κ)) (q (d.at f))) (both (eqb (d.on f) e) (eqb place 0) (q (d.at f)))
      ∙ ap (λ z. only (eqb f e) (only (eqb place (last_place κ)) (q (d.at f))) +ℤ z) (only-neg (eqb (d.on f) e) (only (eqb place 0) (q (d.at f)))))
      ∙ sum-ends g d (λ f. only (eqb place (last_place κ)) (q (d.at f))) (λ f. neg_ℤ (only (eqb place 0) (q (d.at f)))) e h

-- ψ with held flux depends on q at the faces of the grid, and on ψ at that node alone
pub with_held_flux-cong : (κ : Kind) (g : Shape) (q q' : ℕ → ℤ) (ψ ψ' : ℕ → ℕ → ℤ) (e k : ℕ) → ((f : ℕ) → f < faces g → q f ≡ q' f) → ψ e k ≡ ψ' e k → with_held_flux κ g q ψ e k ≡ with_held_flux κ g q' ψ' e k
unfolding with_held_flux face_rise
with_held_flux-cong κ g q q' ψ ψ' e k same h = ap₂ ◌+ℤ◌ h (sum_ℤ-cong (faces g) _ _ (λ f l. ap (λ (z : ℤ). face_rise κ g (λ _. z) e k f) (same f l)))

cond-zero : (b : Bool) {z : ℤ} → z ≡ pos 0 → cond b z (pos 0) ≡ pos 0
cond-zero b e = ap (λ z. cond b z (pos 0)) e ∙ cond_same b (pos 0)

module _ (κ : Kind) (g : Shape) (q : ℕ → ℤ) (ψ : ℕ → ℕ → ℤ) where
  -- ψ with what an element's four sides add
  abbrev pub by_sides : ℕ → ℕ → ℤ
  by_sides e k = ψ e k +ℤ (line_rise κ (q (west g e)) (q e) (k % κ.side) +ℤ line_rise κ (q (north_face g (south g e))) (q (north_face g e)) (k / κ.side))

  pub held-by-sides : (hx : 0 < g.nx) (hy : 0 < g.ny) (e k : ℕ) → e < elements g → with_held_flux κ g q ψ e k ≡ by_sides e k
  unfolding with_held_flux
  held-by-sides hx hy e k h =
      ap (λ z. ψ e k +ℤ z) (sum_ℤ-split (elements g) (elements g) (face_rise κ g q e k)
      ∙ ap₂ ◌+ℤ◌
      (rise-one-way κ g q e k (eastward g hx hy) (k % κ.side) (λ f l. cond_yes (looks_east g f) (k % κ.side) (k / κ.side) (looks-east g f l)) h)
      (rise-one-way κ g q e k (northward g hx hy) (k / κ.side) (λ f l. cond_no (looks_east g (north_face g f)) (k % κ.side) (k / κ.side) (looks-north g f)) h))

  -- where nothing is held back nothing rises
  nothing-rises : ((f : ℕ) → q f ≡ pos 0) → (e k : ℕ) → with_held_flux κ g q ψ e k ≡ ψ e k
  unfolding with_held_flux face_rise
  nothing-rises none e k = ap (λ z. ψ e k +ℤ z) (sum_ℤ-zero (faces g) (face_rise κ g q e k) (λ f _. ap₂ ◌-ℤ◌ (cond-zero _ (none f)) (cond-zero _ (none f)))) ∙ +ℤ_idr (ψ e k)

-- ---- sizes
-- where d is at most b times the sum of ω, q is at most b
pub node_rise-within : (κ : Kind) (b : ℕ) (x y : ℤ) → 0 < sum κ.side κ.line_weight → Within (sum κ.side κ.line_weight * b) (x -ℤ y) → Within b (node_rise κ x y)
unfolding node_rise
node_rise-within κ b x y s h = record { within = omega (arith, abs-with_sign (x -ℤ y) (nat_abs (x -ℤ y) / sum κ.side κ.line_weight), div-le_of_le-mul (sum κ.side κ.line_weight) h.within) }

-- ---- a step in which no face is cut
self-less : (z : ℤ) → z -ℤ z ≡ pos 0
self-less z = eq-parts (omega (arith, sub-parts-of z z, positive-pos 0, negative-pos 0))

-- of an uncut flux nothing is held back
uncut-rise : (κ : Kind) (z : ℤ) → node_rise κ z z ≡ pos 0
unfolding node_rise with_sign
uncut-rise κ z = ap (λ d. with_sign d (nat_abs d / sum κ.side κ.line_weight)) (self-less z) ∙ ap pos (zero-div (sum κ.side κ.line_weight))

module _ (κ : Kind) (g : Shape) (c : ℕ → ℤ) (p : List ℕ) where
  abbrev G : List ℤ
  G = fluxes κ g c (stages κ g c p)

  -- no face is cut: each face's limited flux is its flux
  abbrev pub Uncut : Type 0
  Uncut = (f : ℕ) → f < faces g → at (tracer_step κ g c p).report f ≡ at G f

  -- "A step in which no face is cut gives the result it gave before": the same values, remainders, report and clipped mass
  pub uncut-as-before : Uncut → tracer_step κ g c p ≡ step_without_held_flux κ g c p
  unfolding tracer_step step_without_held_flux finish
  uncut-as-before uncut = ap (finish κ g p (report κ g p G)) (λ i e k. nothing-rises κ g (rises κ G (report κ g p G)) (stages κ g c p).ψ none e k i)
    where
      same : (f : ℕ) → at (report κ g p G) f ≡ at G f
      same f = go (dec_lt f (faces g))
        where
          go : Dec (f < faces g) → at (report κ g p G) f ≡ at G f
          go (yes l) = uncut f l
          go (no l) = get_or-eq_default (report κ g p G) (pos 0) (omega (arith, report-length κ g p G)) ∙ sym (get_or-eq_default G (pos 0) (omega (arith, length-table (faces g) (flux κ g c (stages κ g c p)))))

      none : (f : ℕ) → rises κ G (report κ g p G) f ≡ pos 0
      none f = ap (node_rise κ (at G f)) (same f) ∙ uncut-rise κ (at G f)
