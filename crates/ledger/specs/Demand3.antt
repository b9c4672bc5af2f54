-- Demand 3: what holds after a list of calls from a fresh field. It speaks of the definition `run`, which folds over `call`, `wind_reply` and
-- `wind_after`, of which the definitions that the contracts cite are made.
use Rattle.std.specs.Prelude.{◌≡◌, true, List, ℕ, ◌≤◌, ◌<◌, pos}
use Rattle.whole.specs.Sum.{sum_ℤ}
use Rattle.rules.specs.declared.Shape.{Shape}
use Rattle.rules.specs.Field.{Kind, elements, part, remainder, mass, total, stored_total, sound}
use Rattle.ledger.specs.Lists.{Call, State, Buffers, run, NeverRefused, ledger, strike, replies_left}

-- After a list of calls from state x, for every tracer s of the shape; every remainder is below `below` and every total at most `most`.
-- (Values are naturals: none is negative.) The theorem, `demand-3`, is about the state x that `fresh` leaves.
pub record Demand3 (κ : Kind) (g : Shape) (b : Buffers) (x : State) (below most : ℕ) (calls : List Call) : Type 0 where
  -- "After every list the ledger's number for an element is that element's M.": the last accepted load, which discards what
  -- was there, and everything later that was added or taken off
  pub ledger-agrees : (s : ℕ) → s < g.tracers → (e : ℕ) → e < elements g
      → ledger κ g calls (run κ g b calls x).replies s e ≡ pos (mass κ (part κ g s (run κ g b calls x).end.field) e)
  -- "every remainder is below 36"
  pub remainders : (s : ℕ) → s < g.tracers → (e : ℕ) → e < elements g → remainder κ (part κ g s (run κ g b calls x).end.field) e < below
  -- "no smoke's total passes 100,000,000"
  pub totals : (s : ℕ) → s < g.tracers → total κ g (part κ g s (run κ g b calls x).end.field) ≤ most
  -- "For any list from a fresh field the stored total is the sum of what the ledger says each element holds." (document 02, 2026-06)
  pub stored : (s : ℕ) → s < g.tracers
      → pos (stored_total κ g (part κ g s (run κ g b calls x).end.field)) ≡ sum_ℤ (elements g) (ledger κ g calls (run κ g b calls x).replies s)
  -- so no call of the list is refused by 6, and every part passes the test of all its numbers after it, so that no reading, map or file writing of the
  -- field is, either
  pub never-6 : NeverRefused 6 (run κ g b calls x).replies
  pub sound-parts : (s : ℕ) → s < g.tracers → sound κ g (part κ g s (run κ g b calls x).end.field) ≡ true
  -- "striking all calls on the other smokes from the list changes neither the answer of any call that is left"
  pub replies-stay : (s : ℕ) → s < g.tracers
      → (run κ g b (strike s calls) x).replies ≡ replies_left s calls (run κ g b calls x).replies
  -- "nor this smoke's part of the field"
  pub part_stays : (s : ℕ) → s < g.tracers
      → part κ g s (run κ g b (strike s calls) x).end.field ≡ part κ g s (run κ g b calls x).end.field
