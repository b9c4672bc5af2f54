-- The clipped mass (document 02, 2026-04). What truncation added is the weighted sum of the values' negative parts, so that a closing's, and a
-- step's, is 0 exactly where no levelled number was negative; an emission's and a withdrawal's always is.
use mathlib.Core.Path.{◌≡◌, sym, ap, ◌∙◌}
use mathlib.Core.List.{List}
use Prim.Native.Nat.{ℕ, ◌+◌, ◌*◌, ◌/◌, ◌≤◌, ◌<◌}
use native.Mathlib.Nat.{mul-zero, mul-le-mul_left, mul-le-mul_right, one-mul}
use native.Mathlib.Omega.{arith}
use lib.IntN.{ℤ, pos, ◌-ℤ◌}
use Rattle.whole.specs.Bound.{floor_div}
use Rattle.whole.specs.Parts.{positive, negative}
use Rattle.whole.specs.Sum.{sum}
use Rattle.whole.proofs.SumLaws.{sum-le, sum-zero, sum-pos, sum-mul-right, weighted-parts, term-le}
use Rattle.whole.proofs.WholeLaws.{positive-pos, negative-pos, eq-parts, sub-parts-of, negative-add}
use Rattle.rules.specs.declared.Shape.{Shape}
use Rattle.rules.specs.Answers.{answer}
use Rattle.rules.specs.Field.{Kind, PositiveWeights, quadratic, elements, element, part, weight_sum, weighted, cell, remainder, mass}
use Rattle.rules.specs.Limiter.{signed_sum, mean_shift, adjusted, truncated, clipped, closed, closed_unlevelled}
use Rattle.rules.specs.Stages.{Stages, stages}
use Rattle.rules.specs.HeldFlux.{rises, with_held_flux}
use Rattle.rules.specs.Step.{fluxes, report, target_mass, closed_element, finish, tracer_step}
use Rattle.rules.specs.Calls.{Operation, Lent, emission, withdrawal, emitted, withdrawn, done, call, call_checks, clipped_mass}
use Rattle.rules.proofs.AnswerLaws.{mapped-answer}
use Rattle.rules.proofs.QuadraticLaws.{weights-above}

-- no value is negative
abbrev pub NoneNegative : Kind → (ℕ → ℤ) → Type 0
NoneNegative κ ψ = (k : ℕ) → k < κ.nodes → negative (ψ k) ≡ 0

-- ---- one closing's, of values ψ that are levelled or not
module _ (κ : Kind) (ψ : ℕ → ℤ) where
  -- what was below 0, by node
  abbrev below : ℕ → ℕ
  below k = κ.weight k * negative (ψ k)

  difference-is : pos (weighted κ (truncated ψ)) -ℤ signed_sum κ ψ ≡ pos (sum κ.nodes below)
  unfolding weighted truncated
  difference-is =
      let p = weighted κ (truncated ψ) in
      let n = sum κ.nodes below in
      eq-parts (omega (arith, sub-parts-of (pos p) (signed_sum κ ψ), weighted-parts κ.nodes κ.weight ψ, positive-pos p, negative-pos p, positive-pos n, negative-pos n))

  pub clipped-is : clipped κ ψ ≡ sum κ.nodes below
  unfolding clipped
  clipped-is = ap positive difference-is ∙ positive-pos (sum κ.nodes below)

  -- "P minus the weighted sum", which is not below 0
  pub clipped-difference : pos (clipped κ ψ) ≡ pos (weighted κ (truncated ψ)) -ℤ signed_sum κ ψ
  clipped-difference = ap pos clipped-is ∙ sym difference-is

  -- it is 0 where no value is negative
  pub clips-nothing : NoneNegative κ ψ → clipped κ ψ ≡ 0
  clips-nothing h = clipped-is ∙ sum-zero κ.nodes below (λ k l. ap (λ x. κ.weight k * x) (h k l) ∙ mul-zero (κ.weight k))

  -- and only there
  pub nothing-clipped : PositiveWeights κ → clipped κ ψ ≡ 0 → NoneNegative κ ψ
  nothing-clipped w z k l = omega (arith, z, clipped-is, term-le κ.nodes below k l, mul-le-mul_right (negative (ψ k)) (w k l), one-mul (negative (ψ k)))

  pub clipped-le : (b : ℕ) → ((k : ℕ) → k < κ.nodes → negative (ψ k) ≤ b) → clipped κ ψ ≤ weight_sum κ * b
  unfolding weight_sum
  clipped-le b h = omega (arith, clipped-is, sum-le κ.nodes below (λ k. κ.weight k * b) (λ k l. mul-le-mul_left (κ.weight k) (h k l)), sum-mul-right κ.nodes b κ.weight)

-- ---- an emission's and a withdrawal's, at every state
module _ (κ : Kind) (e q : ℕ) (p : List ℕ) where
  abbrev stored : ℕ → ℤ
  stored k = pos (cell κ p e k)

  -- an emission levels by the remainder and q, which is not below 0
  pub emission-clips-nothing : (emitted κ e q p).clipped ≡ 0
  unfolding emitted closed closed_unlevelled adjusted mean_shift mass weighted
  emission-clips-nothing = clips-nothing κ (adjusted κ stored t) (λ k l. omega (arith, negative-add (stored k) (mean_shift κ stored t), negative-pos (cell κ p e k), ap negative raise-is, negative-pos raise))
    where
      t : ℕ
      t = mass κ p e + q

      raise : ℕ
      raise = (remainder κ p e + q) / weight_sum κ

      difference : pos t -ℤ signed_sum κ stored ≡ pos (remainder κ p e + q)
      difference =
          let a = weighted κ (cell κ p e) in
          let r = remainder κ p e + q in
          ap (λ z. pos t -ℤ z) (sum-pos κ.nodes (λ k. κ.weight k * cell κ p e k))
          ∙ eq-parts (omega (arith, sub-parts-of (pos t) (pos a), positive-pos t, negative-pos t, positive-pos a, negative-pos a, positive-pos r, negative-pos r))

      raise-is : mean_shift κ stored t ≡ pos raise
      raise-is = ap (λ z. floor_div z (weight_sum κ)) difference

  -- a withdrawal does not level
  pub withdrawal-clips-nothing : (withdrawn κ e q p).clipped ≡ 0
  unfolding withdrawn closed_unlevelled
  withdrawal-clips-nothing = clips-nothing κ stored (λ k l. negative-pos (cell κ p e k))

-- what a call answers of its clipped mass
module _ (κ : Kind) (g : Shape) (s : ℕ) (field : List ℕ) where
  pub clipped-answered : (op : Operation Lent) → clipped_mass (call κ g s op field).reply ≡ answer (call_checks κ g s op field) (done κ g op (part κ g s field)).reply.clipped
  unfolding call
  clipped-answered op = mapped-answer (λ r. r.clipped) (call_checks κ g s op field) (done κ g op (part κ g s field)).reply

  -- "which is always 0 there"
  pub emission-answers : (i j q : ℕ) → clipped_mass (call κ g s (emission i j q) field).reply ≡ answer (call_checks κ g s (emission i j q) field) 0
  unfolding done
  emission-answers i j q = clipped-answered (emission i j q) ∙ ap (answer (call_checks κ g s (emission i j q) field)) (emission-clips-nothing κ (element g i j) q (part κ g s field))

  pub withdrawal-answers : (i j q : ℕ) → clipped_mass (call κ g s (withdrawal i j q) field).reply ≡ answer (call_checks κ g s (withdrawal i j q) field) 0
  unfolding done
  withdrawal-answers i j q = clipped-answered (withdrawal i j q) ∙ ap (answer (call_checks κ g s (withdrawal i j q) field)) (withdrawal-clips-nothing κ (element g i j) q (part κ g s field))

-- ---- a step's: 0 exactly where no levelled number of any element was negative
module _ (κ : Kind) (g : Shape) (c : ℕ → ℤ) (p : List ℕ) where
  -- the step's stages, fluxes and report
  abbrev s : Stages
  s = stages κ g c p

  abbrev G : List ℤ
  G = fluxes κ g c s

  abbrev r : List ℤ
  r = report κ g p G

  -- the levelled numbers of element e, of ψ with held flux, for its target
  abbrev levelled : ℕ → ℕ → ℤ
  levelled e = adjusted κ (with_held_flux κ g (rises κ G r) s.ψ e) (target_mass κ g p r e)

  pub step-clips-nothing : ((e : ℕ) → e < elements g → NoneNegative κ (levelled e)) → (tracer_step κ g c p).clipped ≡ 0
  unfolding tracer_step finish closed_element closed closed_unlevelled
  step-clips-nothing h = sum-zero (elements g) _ (λ e l. clips-nothing κ (levelled e) (h e l))

  pub nothing-clipped-by-step : PositiveWeights κ → (tracer_step κ g c p).clipped ≡ 0 → (e : ℕ) → e < elements g → NoneNegative κ (levelled e)
  unfolding tracer_step finish closed_element closed closed_unlevelled
  nothing-clipped-by-step w z e l = nothing-clipped κ (levelled e) w (omega (arith, z, term-le (elements g) (λ e. clipped κ (levelled e)) e l))

-- of the quadratic element, both ways
quadratic-weights : PositiveWeights quadratic
unfolding quadratic
quadratic-weights = weights-above

pub zero-exactly-where : (g : Shape) (c : ℕ → ℤ) (p : List ℕ)
    → ((tracer_step quadratic g c p).clipped ≡ 0 → (e : ℕ) → e < elements g → NoneNegative quadratic (levelled quadratic g c p e))
    × (((e : ℕ) → e < elements g → NoneNegative quadratic (levelled quadratic g c p e)) → (tracer_step quadratic g c p).clipped ≡ 0)
zero-exactly-where g c p = (nothing-clipped-by-step quadratic g c p quadratic-weights, step-clips-nothing quadratic g c p)
