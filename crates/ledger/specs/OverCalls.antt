-- Demand 3 over the calls of the code: a row of calls, of each of which nothing is known but what its contract says.
use Rattle.std.specs.Prelude.{◌≡◌, true, ℕ, ◌≤◌, ◌<◌, ℤ, pos, length, take, Result}
use mathlib.Core.List.{List, [], ◌∷◌}
use Rattle.whole.specs.Sum.{sum_ℤ}
use Rattle.rules.specs.declared.Shape.{Shape}
use Rattle.rules.specs.Answers.{Answer, accepted, refused, answered, answers}
use Rattle.rules.specs.Field.{quadratic, elements, faces, part, remainder, mass, total, limit, stored_total, sound}
use Rattle.rules.specs.Calls.{load, emission, withdrawal, step, Reply, CallGives, StepGives, WindGives}
use Rattle.rules.specs.declared.Refusal.{Refusal}
use Rattle.ledger.specs.Lists.{Call, on_wind, on, State, Buffers, unreported, NeverRefused, ledger, strike, replies_left}

-- what one call of the code gave: its answer, of one of two types, field and wind at exit, and report and work at entry (lent) and at exit (left). A call
-- of the one type says nothing of the other's answer, and nothing reads it (`told`)
pub record Given : Type 0 where
  -- a wind call's, an import's and a load's, which "answers only that it was accepted"
  pub answer : Result (Unit {0}) Refusal
  -- an emission's, a withdrawal's and a step's, accepted with the clipped mass (document 02, 2026-04): "A step gives the sum of this over its elements,
  -- in its result. Emission and withdrawal pass on their closing's figure"
  pub clipped : Result ℕ Refusal
  pub state : State
  pub lent_report : List ℤ
  pub left_report : List ℤ
  pub lent_work : List ℤ
  pub left_work : List ℤ

module _ (g : Shape) (b : Buffers) where
  -- a call made at state x, by the very definition that the contract of `field::wind`, `load`, `emission`, `withdrawal`, `wind_import::import` or `step::step` cites.
  -- "Every call in its list uses one shape and one set of long enough buffers": report and work have the lengths b. "Between calls nothing
  -- else writes to field or wind": what a call isn't lent for writing stays
  abbrev pub Made : Call → State → Given → Type 0
  Made (on_wind c) x d = WindGives g c x.wind (answers d.answer) d.state.wind × (d.state.field ≡ x.field)
  Made (on s (load numbers)) x d = CallGives quadratic g s (load numbers) x.field (answers d.answer) d.state.field × (d.state.wind ≡ x.wind)
  Made (on s (emission i j q)) x d = CallGives quadratic g s (emission i j q) x.field (answers d.clipped) d.state.field × (d.state.wind ≡ x.wind)
  Made (on s (withdrawal i j q)) x d = CallGives quadratic g s (withdrawal i j q) x.field (answers d.clipped) d.state.field × (d.state.wind ≡ x.wind)
  Made (on s (step u)) x d =
      StepGives quadratic g s x.field x.wind d.lent_report d.lent_work (answers d.clipped) d.state.field d.left_report d.left_work
      × ((d.state.wind ≡ x.wind) × ((length d.lent_report ≡ b.report_length) × (length d.lent_work ≡ b.work_length)))

  -- calls made one after the other, from state x to state z: "each call gets field and wind as the one before left them"
  abbrev pub Row : List Call → State → List Given → State → Type 0
  Row [] x [] z = x ≡ z
  Row [] x (d ∷ ds) z = ⊥
  Row (c ∷ cs) x [] z = ⊥
  Row (c ∷ cs) x (d ∷ ds) z = Made c x d × Row cs d.state ds z

-- an answer with this report where it is accepted; what was answered is the clipped mass
unfoldable pub reported : Answer ℕ → List ℤ → Answer Reply
reported (accepted n) r = accepted (record { report = r; clipped = n })
reported (refused n) r = refused n

module _ (g : Shape) where
  -- the answer that the ledger is fed with: "An accepted step's answer there includes the report as that step left it", beside the clipped mass
  unfoldable pub told : Call → Given → Answer Reply
  unfolding unreported reported
  told (on_wind c) d = unreported (answered d.answer)
  told (on s (load numbers)) d = unreported (answered d.answer)
  told (on s (emission i j q)) d = reported (answered d.clipped) []
  told (on s (withdrawal i j q)) d = reported (answered d.clipped) []
  told (on s (step u)) d = reported (answered d.clipped) (take (faces g) d.left_report)

  -- the answers that a row of calls gave, as the ledger is fed with them
  unfoldable pub all_told : List Call → List Given → List (Answer Reply)
  unfolding told
  all_told [] ds = []
  all_told (c ∷ cs) [] = []
  all_told (c ∷ cs) (d ∷ ds) = told c d ∷ all_told cs ds

-- after a row of calls that gave `ds` and led from state x to state z
pub record AfterRow (g : Shape) (b : Buffers) (x : State) (calls : List Call) (ds : List Given) (z : State) : Type 0 where
  pub ledger-agrees : (s : ℕ) → s < g.tracers → (e : ℕ) → e < elements g → ledger quadratic g calls (all_told g calls ds) s e ≡ pos (mass quadratic (part quadratic g s z.field) e)
  pub remainders : (s : ℕ) → s < g.tracers → (e : ℕ) → e < elements g → remainder quadratic (part quadratic g s z.field) e < 36
  pub totals : (s : ℕ) → s < g.tracers → total quadratic g (part quadratic g s z.field) ≤ limit
  -- "For any list from a fresh field the stored total is the sum of what the ledger says each element holds." (document 02, 2026-06)
  pub stored : (s : ℕ) → s < g.tracers → pos (stored_total quadratic g (part quadratic g s z.field)) ≡ sum_ℤ (elements g) (ledger quadratic g calls (all_told g calls ds) s)
  -- so no call of the row is refused by 6, and every part passes the test of all its numbers after it
  pub never-6 : NeverRefused 6 (all_told g calls ds)
  pub sound-parts : (s : ℕ) → s < g.tracers → sound quadratic g (part quadratic g s z.field) ≡ true
  -- a row of the calls that are left when those on other tracers than s are struck, started alike
  pub replies-stay : (s : ℕ) → s < g.tracers → (ds' : List Given) (z' : State) → Row g b (strike s calls) x ds' z'
      → all_told g (strike s calls) ds' ≡ replies_left s calls (all_told g calls ds)
  pub part_stays : (s : ℕ) → s < g.tracers → (ds' : List Given) (z' : State) → Row g b (strike s calls) x ds' z'
      → part quadratic g s z'.field ≡ part quadratic g s z.field
