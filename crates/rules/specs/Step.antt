-- Document 01, "Step", and document 02, 2026-04 to 2026-06: the step of one tracer, on its part of the field.
use Rattle.std.specs.Prelude.{List, ℕ, ℤ, get_or}
use Rattle.whole.specs.Parts.{positive}
use Rattle.whole.specs.Sum.{sum}
use Rattle.whole.specs.Table.{table, blocks, at}
use Rattle.rules.specs.declared.Shape.{Shape}
use Rattle.rules.specs.Field.{Kind, elements, faces, mass, stored_total, part_of}
use Rattle.rules.specs.Limiter.{Closed, closed}
use Rattle.rules.specs.Stages.{Stages, stages, flux}
use Rattle.rules.specs.Correction.{donor, outflow, limited_flux, target}
use Rattle.rules.specs.HeldFlux.{node_rise, rises, with_held_flux}

-- the fluxes (document 01's G) of all faces
unfoldable pub fluxes : Kind → Shape → (ℕ → ℤ) → Stages → List ℤ
unfolding table flux
fluxes κ g c s = table (faces g) (flux κ g c s)

-- the limited fluxes of all faces, the face report, for the fluxes G: "the stages run uncut and the combined amount is cut once, against M at
-- the start"
unfoldable pub report : Kind → Shape → List ℕ → List ℤ → List ℤ
unfolding table donor outflow limited_flux mass
report κ g p G =
    let donors = donor g (at G) in
    let outflows : List ℕ = table (elements g) (outflow g donors (at G)) in
    table (faces g) (limited_flux donors (mass κ p) (at G) (λ e. get_or outflows e 0))

-- T of element e, for a report. It is never below 0 (`goal-above`), so its positive part is T.
abbrev pub target_mass : Kind → Shape → List ℕ → List ℤ → ℕ → ℕ
target_mass κ g p r e = positive (target g (mass κ p) (at r) e)

-- "Close with ψ and T": element e, for a report and the ψ that is closed
unfoldable pub closed_element : Kind → Shape → List ℕ → List ℤ → (ℕ → ℕ → ℤ) → ℕ → Closed
unfolding closed target mass positive
closed_element κ g p r ψ e = closed κ (ψ e) (target_mass κ g p r e)

-- what a step leaves, the tracer's part and the report; and what it gives: "the sum of this over its elements" (document 02, 2026-04)
pub record Stepped : Type 0 where
  pub part : List ℕ
  pub report : List ℤ
  pub clipped : ℕ

-- every element closed, and "Report every G*"; the stored total stays: document 02, 2026-06, "a step leaves it"
unfoldable pub finish : Kind → Shape → List ℕ → List ℤ → (ℕ → ℕ → ℤ) → Stepped
unfolding closed_element blocks part_of stored_total sum
finish κ g p r ψ = record {
  part = part_of (blocks (elements g) (λ e. (closed_element κ g p r ψ e).numbers)) (stored_total κ g p);
  report = r;
  clipped = sum (elements g) (λ e. (closed_element κ g p r ψ e).clipped);
}

-- the step; document 02, 2026-05, "Before the closing": the tentative ψ gets what all faces add
unfoldable pub tracer_step : Kind → Shape → (ℕ → ℤ) → List ℕ → Stepped
unfolding stages fluxes report node_rise with_held_flux finish
tracer_step κ g c p =
    let s = stages κ g c p in
    let G = fluxes κ g c s in
    let r = report κ g p G in
    finish κ g p r (with_held_flux κ g (rises κ G r) s.ψ)

-- the step without that rule, of which 2026-05 says: "A step in which no face is cut gives the result it gave before." The tentative ψ is closed
unfoldable pub step_without_held_flux : Kind → Shape → (ℕ → ℤ) → List ℕ → Stepped
unfolding stages fluxes report finish
step_without_held_flux κ g c p =
    let s = stages κ g c p in
    let r = report κ g p (fluxes κ g c s) in
    finish κ g p r s.ψ
