-- Document 01, "Calls on a field" and "Ledger": a list of calls, what it does to field and wind, the ledger fed with it, and
-- the list with the calls on other tracers struck out.
use Rattle.std.specs.Prelude.{◌≢◌, Bool, true, ℕ, eqb, ℤ}
use Rattle.std.proofs.Math.Bool.{cond}
use mathlib.Core.List.{List, [], ◌∷◌}
use Rattle.std.proofs.Math.IntN.{pos}
use Rattle.rules.specs.declared.Shape.{Shape}
use Rattle.rules.specs.Answers.{Answer, accepted, refused}
use Rattle.rules.specs.Field.{Kind}
use Rattle.rules.specs.Calls.{Operation, load, emission, withdrawal, step, Lent, Reply, no_report, call, WindCall, wind_reply, wind_after, zero_field, zero_wind}
use Rattle.rules.specs.Ledger.{entry}

-- "A call is on the smoke whose number it names"; a load's numbers stand in the call, and a step finds the wind as it stands.
-- Document 02, 2026-01: "The smoke ledger's lists may hold wind imports": an import's records stand in the call
pub data Call : Type 0 where
  on_wind : WindCall → Call
  on : ℕ → Operation (Unit {0}) → Call

-- "Each call gets field and wind as the one before left them"
pub record State : Type 0 where
  pub field : List ℕ
  pub wind : List ℤ

-- "one set of long enough buffers": the lengths of those that steps are lent beside field and wind
pub record Buffers : Type 0 where
  pub report_length : ℕ
  pub work_length : ℕ

-- "The list starts with field and wind all zero": the state that an accepted call Fresh leaves, whatever the buffers held
unfoldable pub fresh : Kind → Shape → List ℕ → List ℤ → State
unfolding zero_field zero_wind
fresh κ g field wind = record { field = zero_field κ g field; wind = zero_wind g wind }

-- the operation with what it is lent
unfoldable pub lend : Buffers → List ℤ → Operation (Unit {0}) → Operation Lent
lend b w (load numbers) = load numbers
lend b w (emission i j q) = emission i j q
lend b w (withdrawal i j q) = withdrawal i j q
lend b w (step u) = step (record { wind = w; report_length = b.report_length; work_length = b.work_length })

-- an answer with no report and nothing clipped
unfoldable pub unreported : Answer (Unit {0}) → Answer Reply
unreported (accepted u) = accepted (no_report 0)
unreported (refused n) = refused n

module _ (κ : Kind) (g : Shape) (b : Buffers) where
  -- a call's answer and the state after it
  pub record Performed : Type 0 where
    pub reply : Answer Reply
    pub state : State

  unfoldable pub perform : Call → State → Performed
  unfolding wind_reply wind_after unreported lend call
  perform (on_wind c) st = record { reply = unreported (wind_reply g c st.wind); state = record { field = st.field; wind = wind_after g c st.wind } }
  perform (on s op) st =
      let c = call κ g s (lend b st.wind op) st.field in
      record { reply = c.reply; state = record { field = c.field; wind = st.wind } }

  -- the answers of all calls of a list, and the state after the last
  pub record Ran : Type 0 where
    pub replies : List (Answer Reply)
    pub end : State

  -- the list from a state on: "each call gets field and wind as the one before left them"
  unfoldable pub run : List Call → State → Ran
  unfolding perform
  run [] st = record { replies = []; end = st }
  run (c ∷ cs) st =
      let d = perform c st in
      let r = run cs d.state in
      record { replies = d.reply ∷ r.replies; end = r.end }

-- none of these answers is a refusal by n
abbrev pub NeverRefused : ℕ → List (Answer Reply) → Type 0
NeverRefused n [] = Unit {0}
NeverRefused n (a ∷ replies) = (a ≢ refused n) × NeverRefused n replies

-- ---- the ledger: one whole number per tracer and element, fed with calls and answers
module _ (κ : Kind) (g : Shape) where
  -- "Wind calls and refused calls change nothing."; imports are calls on the wind
  unfoldable pub line : Call → Answer Reply → (ℕ → ℕ → ℤ) → ℕ → ℕ → ℤ
  unfolding entry
  line (on_wind c) a held s e = held s e
  line (on t op) a held s e = cond (eqb t s) (entry κ g op a (held s) e) (held s e)

  -- the numbers after a list of calls and their answers, from the numbers `held` before it
  unfoldable pub ledger_from : (ℕ → ℕ → ℤ) → List Call → List (Answer Reply) → ℕ → ℕ → ℤ
  unfolding line
  ledger_from held [] replies = held
  ledger_from held (c ∷ cs) [] = held
  ledger_from held (c ∷ cs) (a ∷ replies) = ledger_from (line c a held) cs replies

  -- "0 at the start"
  unfoldable pub ledger : List Call → List (Answer Reply) → ℕ → ℕ → ℤ
  unfolding ledger_from
  ledger cs replies = ledger_from (λ s e. pos 0) cs replies

-- ---- striking all calls on the other tracers than s: "wind calls are never struck", nor are imports
unfoldable pub stays : ℕ → Call → Bool
stays s (on_wind c) = true
stays s (on t op) = eqb t s

unfoldable pub strike : ℕ → List Call → List Call
unfolding stays
strike s [] = []
strike s (c ∷ cs) = cond (stays s c) (c ∷ strike s cs) (strike s cs)

-- the answers of the calls that are left
unfoldable pub replies_left : ℕ → List Call → List (Answer Reply) → List (Answer Reply)
unfolding stays
replies_left s [] replies = []
replies_left s (c ∷ cs) [] = []
replies_left s (c ∷ cs) (a ∷ replies) = cond (stays s c) (a ∷ replies_left s cs replies) (replies_left s cs replies)
